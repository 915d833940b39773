-- The files of a call: one finite map from names to regular files and folders.
use Rattle.std.specs.Prelude.{Bool, ◌&&◌, not, List, Option, is_some}
use Rattle.std.specs.Map.{lookup}
use Rattle.std.specs.Option.{option_map, option_and_then}
use Rattle.std.specs.Str.{bytes_eq}
use Rattle.base_files.specs.Bytes.{Bytes}
use Rattle.base_files.specs.declared.files.Metadata.{Metadata}

-- what lies under a name: a regular file has contents, and a folder has none
pub record Node : Type 0 where
  pub contents : Option Bytes
  pub canonical : Bytes
  pub metadata : Metadata

-- names and what lies under them
abbrev pub Tree : Type 0
Tree = List (Bytes × Node)

-- what lies under a name: the first pair of that name counts
abbrev pub node_at : Tree → Bytes → Option Node
node_at tree name = lookup (bytes_eq name) tree

-- the contents of the regular file of that name
abbrev pub contents_at : Tree → Bytes → Option Bytes
contents_at tree name = option_and_then (λ node. node.contents) (node_at tree name)

-- a regular file has that name
abbrev pub is_file_at : Tree → Bytes → Bool
is_file_at tree name = is_some (contents_at tree name)

-- something has that name
abbrev pub exists_at : Tree → Bytes → Bool
exists_at tree name = is_some (node_at tree name)

-- something has that name, and it's no regular file
abbrev pub is_dir_at : Tree → Bytes → Bool
is_dir_at tree name = exists_at tree name && not (is_file_at tree name)

-- the canonical name of what has that name
abbrev pub canonical_at : Tree → Bytes → Option Bytes
canonical_at tree name = option_map (λ node. node.canonical) (node_at tree name)

-- the metadata of what has that name
abbrev pub metadata_at : Tree → Bytes → Option Metadata
metadata_at tree name = option_map (λ node. node.metadata) (node_at tree name)
