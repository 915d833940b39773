-- The words of the text of one of rustc's response files.
use Rattle.std.specs.Prelude.{◌==◌, not, List, filter, length, map}
use Rattle.std.specs.List.{slice_split}
use Rattle.std.specs.Str.{trim}
use Rattle.base_files.specs.Bytes.{Bytes}

-- each line without the white space around it, but for those that are empty then; 10 ends a line
abbrev pub rustc_lines : Bytes → List Bytes
rustc_lines text = filter (λ line. not (length line == 0)) (map trim (slice_split (λ b. b == 10) text))
