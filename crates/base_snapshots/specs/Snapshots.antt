-- The files that were loaded, as a tree.
use Rattle.std.specs.Prelude.{List, map}
use Rattle.base_files.specs.Bytes.{Bytes}
use Rattle.base_files.specs.Tree.{Node, Tree}
use Rattle.base_snapshots.specs.declared.files.LoadedFile.{LoadedFile}

-- what was found, as it lies in a tree
abbrev pub node_of : LoadedFile → Node
node_of file = record { contents = file.contents; canonical = file.canonical; metadata = file.metadata }

-- the files of these names
abbrev pub tree_of : List (Bytes × LoadedFile) → Tree
tree_of entries = map (λ entry. (entry.0, node_of entry.1)) entries
