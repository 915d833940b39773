use Rattle.std.proofs.Common.{◌≡◌, ◌++◌, List, length, map}
use Rattle.base_files.specs.Bytes.{Bytes}
use Rattle.ckeys_include_records.specs.Surroundings.{contents_in}
use Rattle.ckeys_records.specs.Faults.{first_missing}
use Rattle.rustkeys.specs.Records.{digest_text}
use Rattle.rustkeys.proofs.digests.needed_digests.Given as goal

-- the digests so far come before those of the files that are left, and the first file that isn't there is among these
abbrev pub invariant-loop-path : goal.invariant-loop-path
invariant-loop-path g l =
    let tree = g.F.Files.tree l.fn.files in
    let digests : List Bytes → List Bytes = λ paths. map (digest_text g.H.HashState.digest_of) (map (contents_in tree) paths) in
    record {
      digests : l.digests ++ digests l.rest ≡ digests l.fn.paths;
      missing : first_missing tree l.fn.paths ≡ first_missing tree l.rest;
      tree : g.F.Files.tree l.files ≡ tree;
      steady : g.F.Files.failed l.files ≡ g.F.Files.failed l.fn.files;
    }

abbrev pub decreases-loop-path : goal.decreases-loop-path
decreases-loop-path g l = length l.rest
