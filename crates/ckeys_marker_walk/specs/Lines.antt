-- The lines of a text.
use Rattle.std.specs.Prelude.{ℕ, Bool, ◌==◌, List}
use Rattle.std.specs.List.{before_first, after_first, slice_split}
use Rattle.base_files.specs.Bytes.{Bytes}

abbrev pub is_line_end : ℕ → Bool
is_line_end b = b == 10

-- What is between line ends. After the last line end comes an empty line, which is plain.
abbrev pub lines : Bytes → List Bytes
lines text = slice_split is_line_end text

-- the first line
abbrev pub line_of : Bytes → Bytes
line_of text = before_first is_line_end text

-- what comes after its end
abbrev pub after_line : Bytes → Bytes
after_line text = after_first is_line_end text
