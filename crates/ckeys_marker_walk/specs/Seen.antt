-- The names that have come in a walk.
use Rattle.std.specs.Prelude.{Bool}
use Rattle.std.specs.HashSet.{contains}
use Rattle.std.specs.Borrow.{Bor}
use Rattle.std.specs.Str.{bytes_eq}
use Rattle.base_files.specs.Bytes.{Bytes}
use Rattle.ckeys_marker_walk.specs.declared.walk.Seen.{Seen}

-- a slice of these bytes, wherever it lies
abbrev pub slice_of : Bytes → Bor Bytes
slice_of bytes = record { ref_ptr = (0, 0); now = bytes }

abbrev pub has_come : Seen → Bor Bytes → Bool
has_come seen name = contains (λ x y. bytes_eq x.now y.now) seen.names name
