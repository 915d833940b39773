-- The lines of a C source, and those that include a file.
use Rattle.std.specs.Prelude.{nat_eq, ◌==◌, ◌-◌, if◌then◌else◌, List, [], ◌∷◌, ◌++◌, length, take, Option, None, Some, unwrap_or, option_and_then, codes}
use Rattle.std.specs.List.{onto_first, ends_with}
use Rattle.std.specs.Str.{byte}
use Rattle.base_files.specs.Bytes.{Bytes}
use Rattle.cmdlines_base.specs.Table.{after}

-- the lines of a text, each with its line end, which only the last may lack
abbrev pub lines : Bytes → List Bytes
lines [] = []
lines (b ∷ text) = if b == byte "\n" then (b ∷ []) ∷ lines text else onto_first b (lines text)

-- what comes before the ending, where the text ends with it
abbrev pub ahead_of : Bytes → Bytes → Option Bytes
ahead_of ending text = if ends_with nat_eq text ending then Some (take (length text - length ending) text) else None

-- a line without its line end
abbrev pub without_end : Bytes → Bytes
without_end line = unwrap_or (ahead_of (codes "\n") line) line

-- with a line end, which is added where the text lacks it
abbrev pub with_end : Bytes → Bytes
with_end text = if ends_with nat_eq text (codes "\n") then text else text ++ codes "\n"

-- the NAME of a line `#include "NAME"`: whatever is between its first quote and the quote that ends it
abbrev pub included : Bytes → Option Bytes
included line = option_and_then (ahead_of (codes "\"")) (after (codes "#include \"") (without_end line))
