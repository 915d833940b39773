-- What a compiler's words come to: a request with its options, or why there is none that can be cached.
use Rattle.std.specs.Prelude.{◌≡◌, ◌⊎◌, Bool, true, false, not, List, [], ◌∷◌, Option, None, Some, unwrap_or, is_some, if◌then◌else◌, codes, find, string_bytes}
use Rattle.std.specs.List.{list_any}
use Rattle.std.specs.Option.{option_map, option_and_then}
use Rattle.std.specs.Str.{bytes_eq}
use Rattle.base_files.specs.Bytes.{Bytes}
use Rattle.base_files.specs.Path.{file_name, extension, with_extension}
use Rattle.cmdlines_base.specs.Artifacts.{Artifacts}
use Rattle.cmdlines_base.specs.Reading.{Item, Reading, reading, raw, first_word, whole}
use Rattle.cmdlines_base.specs.Table.{Entry}
use Rattle.cmdlines_base.specs.declared.command.ArtifactDescriptor.{ArtifactDescriptor}
use Rattle.cmdlines_tables.specs.Small.{object_name}
use Rattle.cmdlines_tables.specs.CompilerFacts.{spelling_of}
use Rattle.cmdlines_tables.specs.Languages.{language_of_extension, language_named, knows}
use Rattle.cmdlines_tables.specs.Tables.{entries_of, ends_options, reading_of}
use Rattle.cmdlines_tables.specs.Kinds.{gives_input}
use Rattle.cmdlines_tables.specs.declared.compiler.CCompilerKind.{CCompilerKind}
use Rattle.cmdlines_tables.specs.declared.compiler.CCompilerKind.TheVariants.{Msvc}
use Rattle.cmdlines_tables.specs.declared.compiler.Spelling.{Spelling}
use Rattle.cmdlines_tables.specs.declared.compiler.Spelling.TheVariants as spellings
use Rattle.cmdlines_base.specs.declared.color_mode.ColorMode.TheVariants.{Auto}
use Rattle.cmdlines_tables.specs.declared.kind.ArgKind.{ArgKind}
use Rattle.cmdlines_tables.specs.declared.language.Language.{Language}
use Rattle.cmdlines.specs.Wanted.{facts_of, lists_of, is_hard, flag_of, has_kind}
use Rattle.cmdlines_base.specs.Choices.{when, sooner}
use Rattle.cmdlines_base.specs.declared.compiler_arguments.CompilerArguments.{CompilerArguments}
use Rattle.cmdlines_base.specs.declared.compiler_arguments.CompilerArguments.TheVariants as answers
use Rattle.cmdlines.specs.declared.facts.Facts.{Facts}
use Rattle.cmdlines.specs.declared.lists.Input.{Input}
use Rattle.cmdlines.specs.declared.lists.Lists.{Lists}
use Rattle.cmdlines_tables.specs.declared.parsed.ParsedArguments.{ParsedArguments}

-- the words ask for this, or don't compile, or can't be cached for a reason, with more text or none
pub data Decision : Type 0 where
  asks : ParsedArguments → Decision
  not_compilation : Decision
  cannot_cache : Bytes → Option Bytes → Decision

-- an answer, without where its texts lie in memory
abbrev pub decision_of : CompilerArguments ParsedArguments → Decision
decision_of (answers.Ok parsed) = asks parsed
decision_of answers.NotCompilation = not_compilation
decision_of (answers.CannotCache reason more) = cannot_cache reason.now (option_map string_bytes more)

-- refused for this reason, with no more text
abbrev pub refused : Bytes → Decision
refused reason = cannot_cache reason None

-- the last language option decides, and where it says `none`, or there is none, the extension does
abbrev pub language_by_extension : Bytes → Option Language
language_by_extension input = option_and_then language_of_extension (extension input)

abbrev pub language_for : Option Bytes → Bytes → Option Language
language_for None input = language_by_extension input
language_for (Some name) input = if bytes_eq name (codes "none") then language_by_extension input else language_named name

-- it counts where the compiler knows it
abbrev pub known_language : CCompilerKind → Option Bytes → Bytes → Option Language
known_language kind name input = option_and_then (λ language. when (knows kind language) language) (language_for name input)

-- The last output option, or else the input's file name, its extension replaced by that of objects. An empty one of Msvc is as none.
abbrev pub object_extension_by : Spelling → Bytes
object_extension_by spellings.Msvc = codes "obj"
object_extension_by spelling = codes "o"

abbrev pub object_extension : CCompilerKind → Bytes
object_extension kind = object_extension_by (spelling_of kind)

abbrev pub output_in : Spelling → Bytes → Option Bytes
output_in spellings.Msvc [] = None
output_in spelling path = Some path

abbrev pub output_named_by : CCompilerKind → Bytes → Option Bytes
output_named_by kind path = output_in (spelling_of kind) path

abbrev pub output_beside : CCompilerKind → Bytes → Option Bytes
output_beside kind input = option_map (λ name. with_extension name (object_extension kind)) (file_name input)

abbrev pub output_for : CCompilerKind → Option Bytes → Bytes → Option Bytes
output_for kind option input = sooner (option_and_then (output_named_by kind) option) (output_beside kind input)

-- an output; a compile may not leave it out
abbrev pub artifact_at : Bytes → Bytes → Bytes × ArtifactDescriptor
artifact_at name path = (name, record { path = path; optional = false })

abbrev pub diagnostics_name : Bytes
diagnostics_name = codes "dia"

-- the object, and the messages for tools where they are asked for
abbrev pub outputs_at : Option Bytes → Bytes → Artifacts
outputs_at None path = artifact_at object_name path ∷ []
outputs_at (Some messages) path = artifact_at diagnostics_name messages ∷ artifact_at object_name path ∷ []

abbrev pub parsed_from : Facts → Lists → Input → Language → Bytes → ParsedArguments
parsed_from f l input language path = record {
  input = input.word;
  double_dash_input = input.after_dashes;
  language = language;
  outputs = outputs_at f.diagnostics path;
  preprocessor_args = l.preprocessor;
  dependency_args = l.dependency;
  unhashed_args = l.unhashed;
  common_args = l.common;
  arch_args = l.arch;
  extra_hash_files = l.extra_files;
  color_mode = unwrap_or f.color Auto;
  too_hard_for_preprocessor_cache_mode = f.blocker;
  empty_value = f.empty_value;
  has_color_option = is_some f.color;
  dependencies = f.dependencies;
}

-- two of the values differ
abbrev pub holds_other : Bytes → List Bytes → Bool
holds_other value values = list_any (λ other. not (bytes_eq other value)) values

abbrev pub differ : List Bytes → Bool
differ [] = false
differ (value ∷ values) = holds_other value values

-- The closing table, from its end: an output, one architecture, a known language, one input, a compile.
abbrev pub with_output : Facts → Lists → Input → Language → Option Bytes → Decision
with_output f l input language None = refused (codes "no output file")
with_output f l input language (Some path) = asks (parsed_from f l input language path)

abbrev pub with_language : CCompilerKind → Facts → Lists → Input → Option Language → Decision
with_language kind f l input None = refused (codes "unknown source language")
with_language kind f l input (Some language) = if differ l.architectures then refused (codes "multiple different -arch") else with_output f l input language (output_for kind f.output input.word)

abbrev pub with_inputs : CCompilerKind → Facts → Lists → List Input → Decision
with_inputs kind f l [] = refused (codes "no input file")
with_inputs kind f l (input ∷ other ∷ others) = refused (codes "multiple input files")
with_inputs kind f l (input ∷ []) = with_language kind f l input (known_language kind f.language input.word)

abbrev pub closing : CCompilerKind → Facts → Lists → Decision
closing kind f l = if f.compiles then with_inputs kind f l l.inputs else not_compilation

-- The first option that is too hard decides, by its flag; else words that are cut short do; else the closing table.
abbrev pub decided : CCompilerKind → Option (Item ArgKind) → Bool → Facts → Lists → Decision
decided kind (Some item) cut_short f l = refused (flag_of item)
decided kind None true f l = refused (codes "argument parse")
decided kind None false f l = closing kind f l

abbrev pub decision_on : CCompilerKind → List (Entry ArgKind) → Reading ArgKind → Decision
decision_on kind table r = decided kind (find (is_hard kind) r.items) r.cut_short (facts_of table r.items) (lists_of r.items)

abbrev pub decision_by : CCompilerKind → List (Entry ArgKind) → List Bytes → Decision
decision_by kind table words = decision_on kind table (reading (ends_options kind) table words)

-- what words come to by the compiler's tables, before the hazards
abbrev pub parse_of : CCompilerKind → List Bytes → Decision
parse_of kind words = decision_by kind (entries_of kind) words

-- An input can be placed where it's written: after double dashes that end the options, or as a word that is loose.
abbrev pub IsSafeBy : Bool → List (Entry ArgKind) → Bool → Bytes → Type 0
IsSafeBy dashes table after input = ((after ≡ true) × (dashes ≡ true)) ⊎ ((after ≡ false) × (first_word dashes table input ≡ whole (raw input)))

abbrev pub HasSafeInput : CCompilerKind → ParsedArguments → Type 0
HasSafeInput kind p = IsSafeBy (ends_options kind) (entries_of kind) p.double_dash_input p.input

-- An option of Msvc can give an input that its tables read otherwise where it is a word by itself.
abbrev pub IsGivenByOption : CCompilerKind → List Bytes → Type 0
IsGivenByOption kind words = (kind ≡ Msvc) × (list_any (has_kind gives_input) (reading_of kind words).items ≡ true)

-- whatever these words ask for, its input can be placed where it's written, or an option of Msvc gave it
abbrev pub HasSafeInputIn : CCompilerKind → List Bytes → Decision → Type 0
HasSafeInputIn kind words decision = (p : ParsedArguments) → decision ≡ asks p → HasSafeInput kind p ⊎ IsGivenByOption kind words
