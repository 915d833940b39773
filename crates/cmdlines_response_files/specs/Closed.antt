-- The files of a call that aren't open.
use Rattle.std.specs.Prelude.{Bool, not, filter}
use Rattle.std.specs.Str.{bytes_eq}
use Rattle.base_files.specs.Bytes.{Bytes}
use Rattle.base_files.specs.Tree.{Tree}

-- those whose name isn't open
abbrev pub closed_in : (Bytes → Bool) → Tree → Tree
closed_in is_open tree = filter (λ pair. not (is_open pair.0)) tree

-- those of other names
abbrev pub without : Bytes → Tree → Tree
without name tree = closed_in (bytes_eq name) tree
