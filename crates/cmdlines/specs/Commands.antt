-- The commands that are run for a request, and what the compiler's tables read of them.
use Rattle.std.specs.Prelude.{◌≡◌, Bool, true, false, not, ◌&&◌, List, [], ◌∷◌, ◌++◌, map, Option, None, Some, unwrap_or, is_some, codes}
use Rattle.std.specs.Option.{option_map, option_to_list}
use Rattle.base_files.specs.Bytes.{Bytes}
use Rattle.base_files.specs.Path.{with_extension}
use Rattle.cmdlines_base.specs.Printing.{normal}
use Rattle.cmdlines_base.specs.Reading.{Item, raw, flag, after_dashes}
use Rattle.cmdlines_base.specs.declared.command.ArtifactDescriptor.{ArtifactDescriptor}
use Rattle.cmdlines_tables.specs.OwnWords.{option_words, option_item, language_words, language_items, output_words, output_item, color_word, color_item, writes_dependencies}
use Rattle.cmdlines_tables.specs.Tables.{reading_of}
use Rattle.cmdlines_tables.specs.declared.compiler.CCompilerKind.{CCompilerKind}
use Rattle.cmdlines_tables.specs.declared.kind.ArgKind.{ArgKind}
use Rattle.cmdlines_tables.specs.declared.kind.ArgKind.TheVariants.{TooHard, DoCompilation, DepArgumentPath, DepTarget}
use Rattle.cmdlines_tables.specs.declared.kind.OptionList.TheVariants as lists
use Rattle.cmdlines.specs.Parsing.{Decision, asks}
use Rattle.cmdlines_tables.specs.Small.{object_name}
use Rattle.cmdlines_tables.specs.Small.{output_named}
use Rattle.cmdlines.specs.Wanted.{wanted}
use Rattle.cmdlines_tables.specs.declared.parsed.DependencyOptions.{DependencyOptions}
use Rattle.cmdlines_tables.specs.declared.parsed.ParsedArguments.{ParsedArguments}

-- where the object goes
abbrev pub object_path : ParsedArguments → Option Bytes
object_path p = option_map (λ (output : ArtifactDescriptor). output.path) (output_named object_name p.outputs)

abbrev pub output_path : ParsedArguments → Bytes
output_path p = unwrap_or (object_path p) []

-- what words ask for has an object
abbrev pub HasObjectIn : Decision → Type 0
HasObjectIn decision = (p : ParsedArguments) → decision ≡ asks p → is_some (object_path p) ≡ true

-- The input: among the options, or after double dashes at the end.
abbrev pub front_words : Bool → Bytes → List Bytes
front_words false input = input ∷ []
front_words true input = []

abbrev pub front_items : Bool → Bytes → List (Item ArgKind)
front_items false input = raw input ∷ []
front_items true input = []

abbrev pub after_words : Bool → Bytes → List Bytes
after_words false input = []
after_words true input = codes "--" ∷ input ∷ []

abbrev pub after_items : Bool → Bytes → List (Item ArgKind)
after_items false input = []
after_items true input = after_dashes input ∷ []

-- messages are to be coloured, where no option says whether
abbrev pub color_words : CCompilerKind → Bool → List Bytes
color_words kind true = []
color_words kind false = option_to_list (color_word kind)

abbrev pub color_items : CCompilerKind → Bool → List (Item ArgKind)
color_items kind true = []
color_items kind false = option_to_list (color_item kind)

-- Where a dependency file is asked for, but not where it goes, it goes beside the object; its target is the object, where none is named. Only a compiler that has such options gets them.
abbrev pub lacks_path : CCompilerKind → DependencyOptions → Bool
lacks_path kind d = writes_dependencies kind && d.asked && not d.path

abbrev pub lacks_target : CCompilerKind → DependencyOptions → Bool
lacks_target kind d = writes_dependencies kind && d.asked && not d.target

abbrev pub beside : Bytes → Bytes
beside path = with_extension path (codes "d")

abbrev pub when_words : Bool → Bytes → Bytes → List Bytes
when_words false name value = []
when_words true name value = option_words name value

abbrev pub when_items : Bool → Bytes → ArgKind → Bytes → List (Item ArgKind)
when_items false name kind value = []
when_items true name kind value = option_item name kind value ∷ []

abbrev pub added_words : CCompilerKind → DependencyOptions → Option Bytes → List Bytes
added_words kind d None = []
added_words kind d (Some path) = when_words (lacks_path kind d) (codes "-MF") (beside path) ++ when_words (lacks_target kind d) (codes "-MT") path

abbrev pub added_items : CCompilerKind → DependencyOptions → Option Bytes → List (Item ArgKind)
added_items kind d None = []
added_items kind d (Some path) = when_items (lacks_path kind d) (codes "-MF") DepArgumentPath (beside path) ++ when_items (lacks_target kind d) (codes "-MT") DepTarget path

-- The compile command: the language, the compile flag, the input, the output and the colours, and then the wanted options.
abbrev pub compile_words : CCompilerKind → ParsedArguments → Bytes → List Bytes
compile_words kind p path =
    language_words kind p.language
    ++ (codes "-c" ∷ [])
    ++ front_words p.double_dash_input p.input
    ++ output_words kind path
    ++ color_words kind p.has_color_option
    ++ p.preprocessor_args
    ++ p.unhashed_args
    ++ p.common_args
    ++ p.arch_args
    ++ after_words p.double_dash_input p.input

abbrev pub compile_items : CCompilerKind → ParsedArguments → Bytes → List (Item ArgKind) → List (Item ArgKind)
compile_items kind p path items =
    language_items kind p.language
    ++ (flag (codes "-c") DoCompilation ∷ [])
    ++ front_items p.double_dash_input p.input
    ++ (output_item kind path ∷ [])
    ++ color_items kind p.has_color_option
    ++ wanted lists.Preprocessor items
    ++ wanted lists.Unhashed items
    ++ wanted lists.Common items
    ++ wanted lists.Arch items
    ++ after_items p.double_dash_input p.input

-- The preprocess command: the language, the preprocessing flag and the input, and then the wanted options, with what dependency options lack.
abbrev pub preprocess_words : CCompilerKind → ParsedArguments → List Bytes
preprocess_words kind p =
    language_words kind p.language
    ++ (codes "-E" ∷ [])
    ++ front_words p.double_dash_input p.input
    ++ p.preprocessor_args
    ++ p.dependency_args
    ++ added_words kind p.dependencies (object_path p)
    ++ p.common_args
    ++ p.arch_args
    ++ after_words p.double_dash_input p.input

abbrev pub preprocess_items : CCompilerKind → ParsedArguments → List (Item ArgKind) → List (Item ArgKind)
preprocess_items kind p items =
    language_items kind p.language
    ++ (flag (codes "-E") TooHard ∷ [])
    ++ front_items p.double_dash_input p.input
    ++ wanted lists.Preprocessor items
    ++ wanted lists.Dependency items
    ++ added_items kind p.dependencies (object_path p)
    ++ wanted lists.Common items
    ++ wanted lists.Arch items
    ++ after_items p.double_dash_input p.input

-- A command's words are read as these items, and nothing is cut short. Where a value may be joined or separate, it may be either.
pub record ReadsAs (kind : CCompilerKind) (command : List Bytes) (expected : List (Item ArgKind)) : Type 0 where
  pub items : map normal (reading_of kind command).items ≡ map normal expected
  pub whole : (reading_of kind command).cut_short ≡ false
