use Rattle.std.proofs.Common.{◌≡◌, length}
use Rattle.std.specs.Prelude.{find}
use Rattle.std.specs.List.{Contains}
use Rattle.base_files.specs.Bytes.{Bytes}
use Rattle.base_files.specs.Tree.{exists_at}
use Rattle.rustkeys_base.proofs.libraries.first_there.Given as goal

-- the first of those that are left is that of all
abbrev pub invariant-loop-path : goal.invariant-loop-path
invariant-loop-path g l = record {
  within : (name : Bytes) → Contains l.rest name → Contains l.paths name;
  first : find (exists_at (g.F.Files.tree l.fn.files)) l.rest ≡ find (exists_at (g.F.Files.tree l.fn.files)) l.paths;
  tree : g.F.Files.tree l.files ≡ g.F.Files.tree l.fn.files;
  steady : g.F.Files.failed l.files ≡ g.F.Files.failed l.fn.files;
}

abbrev pub decreases-loop-path : goal.decreases-loop-path
decreases-loop-path g l = length l.rest
