-- Words that make a compiler read more than its command.
use Rattle.std.specs.Prelude.{Bool, false, ◌==◌, ◌&&◌, ◌||◌, List, [], ◌∷◌, Option, Some}
use Rattle.std.specs.List.{list_any}
use Rattle.base_files.specs.Bytes.{Bytes}
use Rattle.cmdlines_base.specs.Reading.{begins_with_at}
use Rattle.cmdlines_tables.specs.CompilerFacts.{style_of}
use Rattle.cmdlines_tables.specs.declared.compiler.CCompilerKind.{CCompilerKind}
use Rattle.cmdlines_response_files.specs.declared.style.Style.{Style}
use Rattle.cmdlines_response_files.specs.declared.style.Style.TheVariants.{Diab}

-- it begins with `-@`: 45 is '-'
abbrev pub begins_with_dash_at : Bytes → Bool
begins_with_dash_at [] = false
begins_with_dash_at (b ∷ bs) = (b == 45) && begins_with_at bs

-- to that compiler the word names a response file
abbrev pub names_file_by : Option Style → Bytes → Bool
names_file_by (Some Diab) word = begins_with_at word || begins_with_dash_at word
names_file_by style word = begins_with_at word

abbrev pub names_file : CCompilerKind → Bytes → Bool
names_file kind word = names_file_by (style_of kind) word

-- one of the words of a command to that compiler would make it open a response file
abbrev pub opens_file : CCompilerKind → List Bytes → Bool
opens_file kind words = list_any (names_file kind) words
