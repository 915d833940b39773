use Rattle.std.proofs.Common.{◌≡◌, ◌++◌, drop, map, string_bytes}
use Rattle.std.specs.Option.{option_map}
use Rattle.ckeys_base.specs.FileDigests.{file_digests}
use Rattle.ckeys_base.proofs.digest.Digest.hash_all.Given as goal

-- all digests are those so far, and then those of the files left
abbrev pub invariant-paths : goal.invariant-paths
invariant-paths g l =
    let digests = file_digests g.H.HashState.digest_of (g.F.Files.tree l.fn.files) in
    record {
      same : g.F.Files.tree l.files ≡ g.F.Files.tree l.fn.files;
      steady : g.F.Files.failed l.files ≡ g.F.Files.failed l.fn.files;
      digested : digests l.paths ≡ option_map (λ others. map string_bytes l.digests.items ++ others) (digests (drop l.path-index l.paths));
    }
