use Rattle.std.proofs.Common.{◌≡◌, ◌++◌, drop}
use Rattle.std.specs.Option.{option_map}
use Rattle.ckeys_base.specs.FileDigests.{file_digests}
use Rattle.rustc_compiler.specs.Causes.{first_missing}
use Rattle.rustc_compiler.proofs.digests.digests_of.Given as goal

-- all digests are those so far, and then those of the files left, among which is the first file that isn't there
abbrev pub invariant-loop-path : goal.invariant-loop-path
invariant-loop-path g l =
    let tree = g.F.Files.tree l.fn.files in
    let digests = file_digests g.H.HashState.digest_of tree in
    record {
      same : g.F.Files.tree l.files ≡ tree;
      steady : g.F.Files.failed l.files ≡ g.F.Files.failed l.fn.files;
      digested : digests l.paths ≡ option_map (λ others. l.digests.items ++ others) (digests (drop l.path-index l.paths));
      missing : first_missing tree l.paths ≡ first_missing tree (drop l.path-index l.paths);
    }
