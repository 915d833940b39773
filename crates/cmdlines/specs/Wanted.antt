-- What the items of a reading want: list by list, and what they say beside.
use Rattle.std.specs.Prelude.{Bool, true, false, ◌&&◌, ◌||◌, List, [], ◌∷◌, Option, None, Some, if◌then◌else◌, filter, codes, is_some, nat_eq}
use Rattle.std.specs.List.{flat_map, list_any, ends_with}
use Rattle.std.specs.Option.{option_to_list}
use Rattle.std.specs.Str.{bytes_eq}
use Rattle.base_files.specs.Bytes.{Bytes}
use Rattle.cmdlines_base.specs.Choices.{later, sooner, when}
use Rattle.cmdlines_base.specs.Printing.{is_empty_j, words_of}
use Rattle.cmdlines_base.specs.Reading.{Item, raw, unknown, flag, valued, after_dashes}
use Rattle.cmdlines_base.specs.Table.{Entry, after}
use Rattle.cmdlines_tables.specs.Kinds.{list_of, is_same_list, blocks_preprocessor_cache, is_too_hard, is_front_end, is_compile, is_output, is_arch, is_diagnostics, is_extra_file, asks_dependencies, is_dependency_path, is_dependency_target, gives_input}
use Rattle.cmdlines_tables.specs.CompilerFacts.{spelling_of}
use Rattle.cmdlines_tables.specs.declared.compiler.CCompilerKind.{CCompilerKind}
use Rattle.cmdlines_tables.specs.declared.compiler.Spelling.{Spelling}
use Rattle.cmdlines_tables.specs.declared.compiler.Spelling.TheVariants.{Gnu, Plain, Msvc}
use Rattle.cmdlines_base.specs.declared.color_mode.ColorMode.{ColorMode}
use Rattle.cmdlines_base.specs.declared.color_mode.ColorMode.TheVariants as modes
use Rattle.cmdlines_tables.specs.declared.kind.ArgKind.{ArgKind}
use Rattle.cmdlines_tables.specs.declared.kind.ArgKind.TheVariants.{Language, LanguageC, LanguageCxx, InputC, InputCxx, DiagnosticsColor, DiagnosticsColorFlag, NoDiagnosticsColorFlag}
use Rattle.cmdlines_tables.specs.declared.kind.OptionList.{OptionList}
use Rattle.cmdlines_tables.specs.declared.kind.OptionList.TheVariants as lists
use Rattle.cmdlines.specs.declared.facts.Facts.{Facts}
use Rattle.cmdlines_tables.specs.declared.parsed.DependencyOptions.{DependencyOptions}
use Rattle.cmdlines.specs.declared.lists.Input.{Input}
use Rattle.cmdlines.specs.declared.lists.Lists.{Lists}

-- an option of a kind that passes the test
abbrev pub has_kind : (ArgKind → Bool) → Item ArgKind → Bool
has_kind test (flag f k) = test k
has_kind test (valued f k v d) = test k
has_kind test _ = false

-- the word of an option, which is empty for a flag without a value
abbrev pub word_of : Item ArgKind → Bytes
word_of (valued f k v d) = v
word_of _ = []

abbrev pub flag_of : Item ArgKind → Bytes
flag_of (flag f k) = f
flag_of (valued f k v d) = f
flag_of _ = []

-- the list that an item goes to: an unknown flag is hashed
abbrev pub list_for : Item ArgKind → OptionList
list_for (raw w) = lists.Nowhere
list_for (unknown w) = lists.Common
list_for (flag f k) = list_of k
list_for (valued f k v d) = list_of k
list_for (after_dashes w) = lists.Nowhere

-- The wanted options of a list.
abbrev pub is_wanted : OptionList → Item ArgKind → Bool
is_wanted list item = is_same_list (list_for item) list

abbrev pub wanted : OptionList → List (Item ArgKind) → List (Item ArgKind)
wanted list items = filter (is_wanted list) items

-- their words, as they are written again
abbrev pub wanted_words : OptionList → List (Item ArgKind) → List Bytes
wanted_words list items = words_of (wanted list items)

-- An input, and whether it comes after double dashes that end the options.
abbrev pub input_at : Bytes → Bool → Input
input_at word seen = record { word = word; after_dashes = seen }

-- an option can give it
abbrev pub input_given : ArgKind → Bytes → List Input
input_given k v = option_to_list (when (gives_input k) (input_at v false))

abbrev pub input_in : Item ArgKind → List Input
input_in (raw w) = input_at w false ∷ []
input_in (unknown w) = []
input_in (flag f k) = input_given k []
input_in (valued f k v d) = input_given k v
input_in (after_dashes w) = input_at w true ∷ []

-- the word of an option of a kind that passes the test
abbrev pub word_in : (ArgKind → Bool) → Item ArgKind → Option Bytes
word_in test item = when (has_kind test item) (word_of item)

abbrev pub words_in : (ArgKind → Bool) → List (Item ArgKind) → List Bytes
words_in test items = flat_map (λ item. option_to_list (word_in test item)) items

-- the last that items say, and the first
abbrev pub last_of : {X : Type 0} → (Item ArgKind → Option X) → List (Item ArgKind) → Option X
last_of says [] = None
last_of says (item ∷ items) = later (says item) (last_of says items)

abbrev pub first_of : {X : Type 0} → (Item ArgKind → Option X) → List (Item ArgKind) → Option X
first_of says [] = None
first_of says (item ∷ items) = sooner (says item) (first_of says items)

-- whether an option says that messages are coloured
abbrev pub color_named : Bytes → ColorMode
color_named word = if bytes_eq word (codes "always") then modes.On else (if bytes_eq word (codes "never") then modes.Off else modes.Auto)

abbrev pub color_by : ArgKind → Bytes → Option ColorMode
color_by DiagnosticsColor word = Some (color_named word)
color_by DiagnosticsColorFlag word = Some modes.On
color_by NoDiagnosticsColorFlag word = Some modes.Off
color_by _ word = None

abbrev pub color_in : Item ArgKind → Option ColorMode
color_in (flag f k) = color_by k []
color_in (valued f k v d) = color_by k v
color_in _ = None

-- the name of the language that an option gives its input
abbrev pub language_by : ArgKind → Bytes → Option Bytes
language_by Language word = Some word
language_by LanguageC word = Some (codes "c")
language_by InputC word = Some (codes "c")
language_by LanguageCxx word = Some (codes "c++")
language_by InputCxx word = Some (codes "c++")
language_by _ word = None

abbrev pub language_in : Item ArgKind → Option Bytes
language_in (flag f k) = language_by k []
language_in (valued f k v d) = language_by k v
language_in _ = None

-- the flag of an option under which the preprocessor cache can't be asked
abbrev pub blocker_in : Item ArgKind → Option Bytes
blocker_in item = when (has_kind blocks_preprocessor_cache item) (flag_of item)

-- Options that are too hard: those of that kind, and what is passed to Clang's front end about modules and precompiled headers.
abbrev pub is_hard_word : Bytes → Bool
is_hard_word word = bytes_eq word (codes "-load") || bytes_eq word (codes "-include-pch") || bytes_eq word (codes "-emit-pch") || is_some (after (codes "-fmodule") word)

-- and, for Msvc, an output that is a folder: its name ends with a slash (47) or a backslash (92)
abbrev pub names_folder : Bytes → Bool
names_folder word = ends_with nat_eq word (47 ∷ []) || ends_with nat_eq word (92 ∷ [])

abbrev pub may_name_folder_by : Spelling → Bool
may_name_folder_by Gnu = false
may_name_folder_by Plain = false
may_name_folder_by Msvc = true

abbrev pub may_name_folder : CCompilerKind → Bool
may_name_folder kind = may_name_folder_by (spelling_of kind)

abbrev pub is_hard : CCompilerKind → Item ArgKind → Bool
is_hard kind item = has_kind is_too_hard item || (has_kind is_front_end item && is_hard_word (word_of item)) || (may_name_folder kind && has_kind is_output item && names_folder (word_of item))

-- what items say of dependency files
abbrev pub dependencies_of : List (Item ArgKind) → DependencyOptions
dependencies_of items = record {
  asked = list_any (has_kind asks_dependencies) items;
  path = list_any (has_kind is_dependency_path) items;
  target = list_any (has_kind is_dependency_target) items;
}

-- what they say beside the lists
abbrev pub facts_of : List (Entry ArgKind) → List (Item ArgKind) → Facts
facts_of table items = record {
  compiles = list_any (has_kind is_compile) items;
  output = last_of (word_in is_output) items;
  language = last_of language_in items;
  diagnostics = last_of (word_in is_diagnostics) items;
  color = last_of color_in items;
  blocker = first_of blocker_in items;
  dependencies = dependencies_of items;
  empty_value = list_any (is_empty_j table) items;
}

-- all lists
abbrev pub lists_of : List (Item ArgKind) → Lists
lists_of items = record {
  inputs = flat_map input_in items;
  preprocessor = wanted_words lists.Preprocessor items;
  dependency = wanted_words lists.Dependency items;
  unhashed = wanted_words lists.Unhashed items;
  common = wanted_words lists.Common items;
  arch = wanted_words lists.Arch items;
  architectures = words_in is_arch items;
  extra_files = words_in is_extra_file items;
}
