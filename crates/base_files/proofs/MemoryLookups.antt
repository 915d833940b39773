-- The tree of files in memory, and the ordered map that holds them.
use Rattle.std.proofs.Common.{◌≡◌, false, cond, List, [], ◌∷◌, Option, None, Some, refl, sym, ap, if◌then◌else◌}
use Rattle.std.specs.BTreeMap.{is_at, insert_entry}
use Rattle.std.specs.Cmp.Lexicographic.{slice_cmp}
use Rattle.std.specs.Map.{lookup}
use Rattle.std.specs.Option.{option_map}
use Rattle.std.specs.Ordering.{nat_cmp, is_eq, match_ordering}
use Rattle.std.specs.Str.{bytes_eq}
use Rattle.std.specs.declared.cmp.Ordering.{Ordering}
use Rattle.std.specs.declared.cmp.Ordering.TheVariants.{Less, Equal, Greater}
use Rattle.std.proofs.lemmas.Map.Lookups.{exact_bytes}
use Rattle.std.proofs.lemmas.Map.Text.{is_eq-slice_cmp}
use Rattle.base_files.specs.Bytes.{Bytes}
use Rattle.base_files.specs.Tree.{node_at, is_dir_at}
use Rattle.base_files.specs.MemoryTree.{node_of, tree_of, with_file}
use Rattle.base_files.specs.declared.memory_files.MemoryFile.{MemoryFile}

-- names and files, as the ordered map holds them
abbrev Entries : Type 0
Entries = List (Bytes × MemoryFile)

-- what the ordered map finds under a name
abbrev file_at : Entries → Bytes → Option MemoryFile
file_at entries name = lookup (is_at (slice_cmp nat_cmp name)) entries

found_here : (name key : Bytes) (file : MemoryFile) (entries : Entries) (order : Ordering) → slice_cmp nat_cmp name key ≡ order → node_at (tree_of entries) name ≡ option_map (node_of name) (file_at entries name) → cond (is_eq order) (Some (node_of key file)) (node_at (tree_of entries) name) ≡ option_map (node_of name) (cond (is_eq order) (Some file) (file_at entries name))
found_here name key file entries Less was below = below
found_here name key file entries Equal was below = ap (λ n. Some (node_of n file)) (sym (exact_bytes name key was))
found_here name key file entries Greater was below = below

-- a look-up by bytes finds the node of what the ordered map finds
pub node_found : (entries : Entries) (name : Bytes) → node_at (tree_of entries) name ≡ option_map (node_of name) (file_at entries name)
node_found [] name = refl
node_found (entry ∷ entries) name = rw (← is_eq-slice_cmp name entry.0) (found_here name entry.0 entry.1 entries (slice_cmp nat_cmp name entry.0) refl (node_found entries name))

no_folder_in : (found : Option MemoryFile) (name : Bytes) (entries : Entries) → node_at (tree_of entries) name ≡ option_map (node_of name) found → false ≡ is_dir_at (tree_of entries) name
no_folder_in None name entries e = rw e refl
no_folder_in (Some file) name entries e = rw e refl

-- no file in memory is a folder
pub no_folder : (entries : Entries) (name : Bytes) → false ≡ is_dir_at (tree_of entries) name
no_folder entries name = no_folder_in (file_at entries name) name entries (node_found entries name)

kept_here : (name key : Bytes) (file old : MemoryFile) (entries : Entries) (order : Ordering) → slice_cmp nat_cmp name key ≡ order → tree_of (insert_entry (slice_cmp nat_cmp) entries name file) ≡ with_file (tree_of entries) name file → tree_of (match_ordering order ((name, file) ∷ (key, old) ∷ entries) ((key, file) ∷ entries) ((key, old) ∷ insert_entry (slice_cmp nat_cmp) entries name file)) ≡ match_ordering order ((name, node_of name file) ∷ (key, node_of key old) ∷ tree_of entries) ((key, node_of name file) ∷ tree_of entries) ((key, node_of key old) ∷ with_file (tree_of entries) name file)
kept_here name key file old entries Less was below = refl
kept_here name key file old entries Equal was below = ap (λ n. (key, node_of n file) ∷ tree_of entries) (sym (exact_bytes name key was))
kept_here name key file old entries Greater was below = ap (λ tree. (key, node_of key old) ∷ tree) below

-- what the ordered map inserts is at its place in the tree
pub tree_kept : (entries : Entries) (name : Bytes) (file : MemoryFile) → tree_of (insert_entry (slice_cmp nat_cmp) entries name file) ≡ with_file (tree_of entries) name file
tree_kept [] name file = refl
tree_kept (entry ∷ entries) name file = kept_here name entry.0 file entry.1 entries (slice_cmp nat_cmp name entry.0) refl (tree_kept entries name file)

put_here : (path name : Bytes) (file : MemoryFile) (old : Entries) (order : Ordering) → slice_cmp nat_cmp path name ≡ order → option_map (node_of name) (cond (is_eq order) (Some file) (file_at old name)) ≡ cond (is_eq order) (Some (node_of path file)) (option_map (node_of name) (file_at old name))
put_here path name file old Less was = refl
put_here path name file old Equal was = ap (λ n. Some (node_of n file)) (sym (exact_bytes path name was))
put_here path name file old Greater was = refl

-- what a name has after the ordered map took a file in
pub node_put : (path name : Bytes) (file : MemoryFile) (old new : Entries) → file_at new name ≡ cond (is_eq (slice_cmp nat_cmp path name)) (Some file) (file_at old name) → node_at (tree_of new) name ≡ (if bytes_eq path name then Some (node_of path file) else node_at (tree_of old) name)
node_put path name file old new e = rw (node_found new name, node_found old name, e, ← is_eq-slice_cmp path name) (put_here path name file old (slice_cmp nat_cmp path name) refl)
