-- The arguments of response files that were read.
use Rattle.std.specs.Prelude.{◌≡◌, List, Option, Some}
use Rattle.std.specs.HashMap.{get_by}
use Rattle.std.specs.Option.{option_and_then}
use Rattle.std.specs.Str.{bytes_eq}
use Rattle.base_files.specs.Bytes.{Bytes}
use Rattle.base_files.specs.Tree.{Tree, contents_at}
use Rattle.cmdlines_response_files.specs.Styles.{words_of}
use Rattle.cmdlines_response_files.specs.declared.known.KnownFiles.{KnownFiles}
use Rattle.cmdlines_response_files.specs.declared.style.Style.{Style}

-- what is known of the file of that path, if anything is
abbrev pub known_at : KnownFiles → Bytes → Option (Option (List Bytes))
known_at known path = get_by (bytes_eq path) known.by_path

-- what is known of files is what they hold
abbrev pub AreTrue : KnownFiles → (Bytes → Option (List Bytes)) → Type 0
AreTrue known arguments_at = (path : Bytes) (arguments : Option (List Bytes)) → known_at known path ≡ Some arguments → arguments ≡ arguments_at path

-- the arguments of the file of that path, where it is opened
abbrev pub arguments_at : Style → Tree → Bytes → Option (List Bytes)
arguments_at style tree path = option_and_then (words_of style) (contents_at tree path)
