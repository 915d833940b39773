-- The files that are kept in memory, as a tree.
use Rattle.std.specs.Prelude.{List, map, length, Some}
use Rattle.std.specs.BTreeMap.{insert_entry}
use Rattle.std.specs.Cmp.Lexicographic.{slice_cmp}
use Rattle.std.specs.Ordering.{nat_cmp}
use Rattle.base_files.specs.Bytes.{Bytes}
use Rattle.base_files.specs.Tree.{Node, Tree}
use Rattle.base_files.specs.declared.files.Metadata.{Metadata}
use Rattle.base_files.specs.declared.memory_files.MemoryFile.{MemoryFile}

-- the size of a file, and its one time for both
abbrev pub metadata_of : MemoryFile → Metadata
metadata_of file = record { size = length file.contents; mtime = file.mtime; ctime = file.mtime }

-- a regular file that is its own canonical name
abbrev pub node_of : Bytes → MemoryFile → Node
node_of name file = record { contents = Some file.contents; canonical = name; metadata = metadata_of file }

-- the files of these names
abbrev pub tree_of : List (Bytes × MemoryFile) → Tree
tree_of entries = map (λ entry. (entry.0, node_of entry.0 entry.1)) entries

-- the tree with this file under this name, in the order of names, over what the name had
abbrev pub with_file : Tree → Bytes → MemoryFile → Tree
with_file tree name file = insert_entry (slice_cmp nat_cmp) tree name (node_of name file)
