-- What rustc's words become once the files that they name are opened.
use Rattle.std.specs.Prelude.{Bool, List, [], ◌∷◌, Option, None, Some, nat_eq, codes, if◌then◌else◌}
use Rattle.std.specs.List.{flat_map, starts_with}
use Rattle.std.specs.Option.{option_and_then, option_map, unwrap_or}
use Rattle.std.specs.Str.{is_utf8}
use Rattle.base_files.specs.Bytes.{Bytes}
use Rattle.base_files.specs.Path.{join}
use Rattle.base_files.specs.Tree.{Tree, contents_at}
use Rattle.cmdlines_response_files.specs.Styles.{after}
use Rattle.rustkeys_base.specs.Lines.{rustc_lines}

-- whether the word names a response file
abbrev pub names_file : Bytes → Bool
names_file word = starts_with nat_eq word (codes "@")

-- the path of the response file that a word names, in that directory
abbrev pub path_of : Bytes → Bytes → Option Bytes
path_of dir word = option_map (join dir) (after (codes "@") word)

-- the words of a text: one that isn't UTF-8 has none
abbrev pub words_of_text : Bytes → Option (List Bytes)
words_of_text text = if is_utf8 text then Some (rustc_lines text) else None

-- the words of the file of that path
abbrev pub words_in : Tree → Bytes → Option (List Bytes)
words_in tree path = option_and_then words_of_text (contents_at tree path)

-- the words of the file that a word names
abbrev pub opened_by : Bytes → Tree → Bytes → Option (List Bytes)
opened_by dir tree word = option_and_then (words_in tree) (path_of dir word)

-- the file's words come in the word's place, and a word that opens no file stays
abbrev pub in_place_of : Bytes → Tree → Bytes → List Bytes
in_place_of dir tree word = unwrap_or (opened_by dir tree word) (word ∷ [])

-- each word is opened by itself, and what comes from a file isn't opened
abbrev pub expanded_by_rustc : Bytes → Tree → List Bytes → List Bytes
expanded_by_rustc dir tree words = flat_map (in_place_of dir tree) words
