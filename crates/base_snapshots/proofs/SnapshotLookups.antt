-- The tree of loaded files, and the ordered map that holds them.
use Rattle.std.proofs.Common.{◌≡◌, Bool, true, false, cond, List, [], ◌∷◌, Option, Some, refl, if◌then◌else◌}
use Rattle.std.specs.Prelude.{◌||◌, is_some}
use Rattle.std.specs.BTreeMap.{is_at}
use Rattle.std.specs.Cmp.Lexicographic.{slice_cmp}
use Rattle.std.specs.Map.{lookup}
use Rattle.std.specs.Option.{option_map}
use Rattle.std.specs.Ordering.{nat_cmp, is_eq}
use Rattle.std.specs.Str.{bytes_eq}
use Rattle.std.proofs.lemmas.Map.Text.{is_eq-slice_cmp}
use Rattle.base_files.specs.Bytes.{Bytes}
use Rattle.base_files.specs.Tree.{node_at}
use Rattle.base_snapshots.specs.Snapshots.{node_of, tree_of}
use Rattle.base_snapshots.specs.declared.files.LoadedFile.{LoadedFile}

abbrev Entries : Type 0
Entries = List (Bytes × LoadedFile)

-- what the ordered map finds under a name
abbrev file_at : Entries → Bytes → Option LoadedFile
file_at entries name = lookup (is_at (slice_cmp nat_cmp name)) entries

found_here : (b : Bool) (name : Bytes) (file : LoadedFile) (entries : Entries) → node_at (tree_of entries) name ≡ option_map node_of (file_at entries name) → cond b (Some (node_of file)) (node_at (tree_of entries) name) ≡ option_map node_of (cond b (Some file) (file_at entries name))
found_here true name file entries below = refl
found_here false name file entries below = below

-- a look-up by bytes finds the node of what the ordered map finds
pub node_found : (entries : Entries) (name : Bytes) → node_at (tree_of entries) name ≡ option_map node_of (file_at entries name)
node_found [] name = refl
node_found (entry ∷ entries) name = rw (← is_eq-slice_cmp name entry.0) (found_here (is_eq (slice_cmp nat_cmp name entry.0)) name entry.1 entries (node_found entries name))

put_here : (b : Bool) (file : LoadedFile) (old : Option LoadedFile) → option_map node_of (cond b (Some file) old) ≡ cond b (Some (node_of file)) (option_map node_of old)
put_here true file old = refl
put_here false file old = refl

-- what a name has after the ordered map took a file in
pub node_put : (path name : Bytes) (file : LoadedFile) (old new : Entries) → file_at new name ≡ cond (is_eq (slice_cmp nat_cmp path name)) (Some file) (file_at old name) → node_at (tree_of new) name ≡ (if bytes_eq path name then Some (node_of file) else node_at (tree_of old) name)
node_put path name file old new e = rw (node_found new name, node_found old name, e, ← is_eq-slice_cmp path name) (put_here (is_eq (slice_cmp nat_cmp path name)) file (file_at old name))

loaded_here : {X : Type 0} (b : Bool) (x : X) (old : Option X) (other : Bool) → (is_some (cond b (Some x) old) || other) ≡ (b || (is_some old || other))
loaded_here true x old other = refl
loaded_here false x old other = refl

-- what is known of a name after an ordered map took a value in
pub known_loaded : {X : Type 0} (path name : Bytes) (x : X) (old new : Option X) (other : Bool) → new ≡ cond (is_eq (slice_cmp nat_cmp path name)) (Some x) old → (is_some new || other) ≡ (bytes_eq path name || (is_some old || other))
known_loaded path name x old new other e = rw (e, ← is_eq-slice_cmp path name) (loaded_here (is_eq (slice_cmp nat_cmp path name)) x old other)

absent_here : {X : Type 0} (b : Bool) (x : X) (old : Option X) (other : Bool) → (other || is_some (cond b (Some x) old)) ≡ (b || (other || is_some old))
absent_here true x old true = refl
absent_here true x old false = refl
absent_here false x old other = refl

pub known_absent : {X : Type 0} (path name : Bytes) (x : X) (old new : Option X) (other : Bool) → new ≡ cond (is_eq (slice_cmp nat_cmp path name)) (Some x) old → (other || is_some new) ≡ (bytes_eq path name || (other || is_some old))
known_absent path name x old new other e = rw (e, ← is_eq-slice_cmp path name) (absent_here (is_eq (slice_cmp nat_cmp path name)) x old other)
