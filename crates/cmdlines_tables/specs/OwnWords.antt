-- The words that commands have of their own, and what the tables make of them.
use Rattle.std.specs.Prelude.{◌≡◌, Bool, true, false, List, [], ◌∷◌, ◌++◌, codes, Option, None, Some}
use Rattle.std.specs.Option.{option_map, option_to_list}
use Rattle.base_files.specs.Bytes.{Bytes}
use Rattle.cmdlines_base.specs.Again.{is_clear, lets_dashes}
use Rattle.cmdlines_base.specs.Reading.{Item, flag, valued, reading, all_before}
use Rattle.cmdlines_base.specs.Table.{Entry}
use Rattle.cmdlines_base.specs.declared.argument.ArgDisposition.TheVariants.{CanBeConcatenated, Concatenated}
use Rattle.cmdlines_tables.specs.CompilerFacts.{ColorWord, by_flag, by_value, facts_about, spelling_of}
use Rattle.cmdlines_tables.specs.Languages.{language_option}
use Rattle.cmdlines_tables.specs.Tables.{entries_of, ends_options}
use Rattle.cmdlines_tables.specs.declared.compiler.CCompilerKind.{CCompilerKind}
use Rattle.cmdlines_tables.specs.declared.compiler.Spelling.{Spelling}
use Rattle.cmdlines_tables.specs.declared.compiler.Spelling.TheVariants.{Gnu, Plain, Msvc}
use Rattle.cmdlines_tables.specs.declared.kind.ArgKind.{ArgKind}
use Rattle.cmdlines_tables.specs.declared.kind.ArgKind.TheVariants.{TooHard, DoCompilation, Output, LanguageC, LanguageCxx, DepArgumentPath, DepTarget, DiagnosticsColor, DiagnosticsColorFlag}
use Rattle.cmdlines_tables.specs.declared.kind.ArgKind.TheVariants as kinds
use Rattle.cmdlines_tables.specs.declared.language.Language.{Language}
use Rattle.cmdlines_tables.specs.declared.language.Language.TheVariants.{C, Cxx}

-- An option apart from its value: two words, or one item.
abbrev pub option_words : Bytes → Bytes → List Bytes
option_words name value = name ∷ value ∷ []

abbrev pub option_item : Bytes → ArgKind → Bytes → Item ArgKind
option_item name kind value = valued name kind value (CanBeConcatenated None)

-- The language, where an option can name it: Gcc and those like it have one that takes a name, Msvc has a flag for each.
abbrev pub named_words : Option Bytes → List Bytes
named_words None = []
named_words (Some name) = option_words (codes "-x") name

abbrev pub named_items : Option Bytes → List (Item ArgKind)
named_items None = []
named_items (Some name) = option_item (codes "-x") kinds.Language name ∷ []

abbrev pub language_words_by : Spelling → Language → List Bytes
language_words_by Gnu language = named_words (language_option language)
language_words_by Plain language = []
language_words_by Msvc C = codes "-TC" ∷ []
language_words_by Msvc Cxx = codes "-TP" ∷ []
language_words_by Msvc language = []

abbrev pub language_words : CCompilerKind → Language → List Bytes
language_words kind language = language_words_by (spelling_of kind) language

abbrev pub language_items_by : Spelling → Language → List (Item ArgKind)
language_items_by Gnu language = named_items (language_option language)
language_items_by Plain language = []
language_items_by Msvc C = flag (codes "-TC") LanguageC ∷ []
language_items_by Msvc Cxx = flag (codes "-TP") LanguageCxx ∷ []
language_items_by Msvc language = []

abbrev pub language_items : CCompilerKind → Language → List (Item ArgKind)
language_items kind language = language_items_by (spelling_of kind) language

-- The output: Msvc takes it in one word with the flag.
abbrev pub output_words_by : Spelling → Bytes → List Bytes
output_words_by Gnu path = option_words (codes "-o") path
output_words_by Plain path = option_words (codes "-o") path
output_words_by Msvc path = (codes "-Fo" ++ path) ∷ []

abbrev pub output_words : CCompilerKind → Bytes → List Bytes
output_words kind path = output_words_by (spelling_of kind) path

abbrev pub output_item_by : Spelling → Bytes → Item ArgKind
output_item_by Gnu path = option_item (codes "-o") Output path
output_item_by Plain path = option_item (codes "-o") Output path
output_item_by Msvc path = valued (codes "-Fo") Output path (Concatenated None)

abbrev pub output_item : CCompilerKind → Bytes → Item ArgKind
output_item kind path = output_item_by (spelling_of kind) path

-- The word that makes messages coloured, where there is one, and what it is read as.
abbrev pub color_word_by : ColorWord → Bytes
color_word_by (by_flag name) = name
color_word_by (by_value name value) = name ++ 61 ∷ value

abbrev pub color_word : CCompilerKind → Option Bytes
color_word kind = option_map color_word_by (facts_about kind).color

abbrev pub color_item_by : ColorWord → Item ArgKind
color_item_by (by_flag name) = flag name DiagnosticsColorFlag
color_item_by (by_value name value) = valued name DiagnosticsColor value (Concatenated (Some 61))

abbrev pub color_item : CCompilerKind → Option (Item ArgKind)
color_item kind = option_map color_item_by (facts_about kind).color

-- whether options can ask for dependency files
abbrev pub writes_dependencies_by : Spelling → Bool
writes_dependencies_by Gnu = true
writes_dependencies_by Plain = false
writes_dependencies_by Msvc = false

abbrev pub writes_dependencies : CCompilerKind → Bool
writes_dependencies kind = writes_dependencies_by (spelling_of kind)

-- whatever follows, these words are read as these items
abbrev pub AreReadAs : Bool → List (Entry ArgKind) → List Bytes → List (Item ArgKind) → Type 0
AreReadAs dashes table words items = (rest : List Bytes) → reading dashes table (words ++ rest) ≡ all_before items (reading dashes table rest)

-- How a table reads the words that a compiler's commands have of their own. And the table is clear, so that what was read is read again.
pub record OwnWordsOf (kind : CCompilerKind) (dashes : Bool) (table : List (Entry ArgKind)) : Type 0 where
  pub clear : is_clear table ≡ true
  pub dashed : lets_dashes dashes table ≡ true
  pub language : (language : Language) → AreReadAs dashes table (language_words kind language) (language_items kind language)
  pub compile : AreReadAs dashes table (codes "-c" ∷ []) (flag (codes "-c") DoCompilation ∷ [])
  pub preprocess : AreReadAs dashes table (codes "-E" ∷ []) (flag (codes "-E") TooHard ∷ [])
  pub output : (path : Bytes) → AreReadAs dashes table (output_words kind path) (output_item kind path ∷ [])
  pub color : AreReadAs dashes table (option_to_list (color_word kind)) (option_to_list (color_item kind))
  pub dependency_path : writes_dependencies kind ≡ true → (path : Bytes) → AreReadAs dashes table (option_words (codes "-MF") path) (option_item (codes "-MF") DepArgumentPath path ∷ [])
  pub dependency_target : writes_dependencies kind ≡ true → (target : Bytes) → AreReadAs dashes table (option_words (codes "-MT") target) (option_item (codes "-MT") DepTarget target ∷ [])

abbrev pub OwnWords : CCompilerKind → Type 0
OwnWords kind = OwnWordsOf kind (ends_options kind) (entries_of kind)
