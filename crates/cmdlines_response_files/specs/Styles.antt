-- How a compiler opens words.
use Rattle.std.specs.Prelude.{ℕ, nat_eq, Bool, ◌||◌, ◌==◌, List, length, drop, Option, None, Some, codes, if◌then◌else◌}
use Rattle.std.specs.List.{list_any, starts_with}
use Rattle.std.specs.Option.{option_map}
use Rattle.base_files.specs.Bytes.{Bytes}
use Rattle.base_files.specs.Path.{join}
use Rattle.cmdlines_response_files.specs.Decoding.{decoded}
use Rattle.cmdlines_response_files.specs.Scanning.{gnu_arguments, msvc_arguments}
use Rattle.cmdlines_response_files.specs.declared.style.Style.{Style}
use Rattle.cmdlines_response_files.specs.declared.style.Style.TheVariants.{Gnu, Msvc, Diab}

-- what comes before the name of a response file
abbrev pub mark_of : Style → Bytes
mark_of Gnu = codes "@"
mark_of Msvc = codes "@"
mark_of Diab = codes "-@"

-- what comes after the mark, where the word begins with it
abbrev pub after : Bytes → Bytes → Option Bytes
after mark word = if starts_with nat_eq word mark then Some (drop (length mark) word) else None

-- the path of the response file that a word names, in that directory
abbrev pub path_of : Style → Bytes → Bytes → Option Bytes
path_of style dir word = option_map (join dir) (after (mark_of style) word)

-- 34 is '"', 39 is '\'', 92 is '\\'
abbrev pub is_special : ℕ → Bool
is_special b = b == 34 || (b == 39 || b == 92)

-- the words of a text, where such a text is opened
abbrev pub words_of : Style → Bytes → Option (List Bytes)
words_of Gnu text = Some (gnu_arguments text)
words_of Msvc text = Some (msvc_arguments (decoded text))
words_of Diab text = if list_any is_special text then None else Some (gnu_arguments text)

-- whether the word names a response file
abbrev pub names_file : Style → Bytes → Bool
names_file style word = starts_with nat_eq word (mark_of style)
