use Rattle.std.proofs.Common.{◌≡◌, ◌++◌, List, length, map, string_bytes}
use Rattle.base_files.specs.Bytes.{Bytes}
use Rattle.base_files.specs.Path.{join}
use Rattle.ckeys_base.specs.Hex.{hex_of}
use Rattle.ckeys_include_records.specs.Surroundings.{contents_in}
use Rattle.ckeys_records.specs.Faults.{first_missing}
use Rattle.ckeys.proofs.needed.extra_hashes.Given as goal

-- the digests so far come before those of the files that are left, and the first file that isn't there is among these
abbrev pub invariant-loop-name : goal.invariant-loop-name
invariant-loop-name g l =
    let tree = g.F.Files.tree l.fn.files in
    let digests : List Bytes → List Bytes = λ names. map (λ contents. hex_of (g.H.HashState.digest_of contents)) (map (contents_in tree) (map (join l.fn.dir) names)) in
    record {
      digests : map string_bytes l.digests ++ digests l.rest ≡ digests l.fn.names;
      missing : first_missing tree (map (join l.fn.dir) l.fn.names) ≡ first_missing tree (map (join l.fn.dir) l.rest);
      tree : g.F.Files.tree l.files ≡ tree;
      steady : g.F.Files.failed l.files ≡ g.F.Files.failed l.fn.files;
    }

abbrev pub decreases-loop-name : goal.decreases-loop-name
decreases-loop-name g l = length l.rest
