-- Names of which something was loaded.
use Rattle.std.specs.BTreeMap.{get}
use Rattle.std.specs.Cmp.Lexicographic.{slice_cmp}
use Rattle.std.specs.Ordering.{nat_cmp}
use Rattle.std.specs.Prelude.{◌≡◌, Bool, ◌||◌, is_some}
use Rattle.base_files.specs.Bytes.{Bytes}
use Rattle.base_snapshots.specs.declared.files.SnapshotFiles.{SnapshotFiles}

-- what was found under a name was loaded, or that nothing was
abbrev pub is_known : SnapshotFiles → Bytes → Bool
is_known files name = is_some (get (slice_cmp nat_cmp) files.loaded name) || is_some (get (slice_cmp nat_cmp) files.absent name)

-- the same names are known
abbrev pub KnowsAlike : SnapshotFiles → SnapshotFiles → Type 0
KnowsAlike one other = (name : Bytes) → is_known one name ≡ is_known other name
