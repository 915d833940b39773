-- What a request that can be cached asks for.
use Rattle.std.specs.Prelude.{◌≡◌, Bool, true, false, not, ◌&&◌, List, [], ◌∷◌, ◌++◌, Option, None, Some, unwrap_or, codes, map, find, filter, filter_map, if◌then◌else◌}
use Rattle.std.specs.List.{flat_map, AllZip}
use Rattle.std.specs.Option.{option_map_or}
use Rattle.std.specs.Str.{bytes_eq}
use Rattle.base_files.specs.Bytes.{Bytes}
use Rattle.base_files.specs.Path.{join, path_cmp}
use Rattle.base_files.specs.Tree.{Tree, exists_at}
use Rattle.cmdlines_base.specs.Pieces.{normalized}
use Rattle.cmdlines_base.specs.Printing.{normalized_disposition}
use Rattle.cmdlines_base.specs.Reading.{Item, Reading, valued}
use Rattle.cmdlines_base.specs.Values.{IsOf, values_by}
use Rattle.cmdlines_base.specs.declared.argument.Argument.{Argument}
use Rattle.cmdlines_base.specs.declared.argument.NormalizedDisposition.TheVariants.{Separated}
use Rattle.cmdlines_base.specs.Choices.{when}
use Rattle.cmdlines_base.specs.declared.compiler_arguments.CompilerArguments.{CompilerArguments}
use Rattle.cmdlines_base.specs.declared.compiler_arguments.CompilerArguments.TheVariants as answers
use Rattle.cmdlines_base.specs.declared.color_mode.ColorMode.{ColorMode}
use Rattle.cmdlines_base.specs.declared.color_mode.ColorMode.TheVariants.{Auto, On, Off}
use Rattle.rustc_options.specs.Data.{IsFlagValue, IsWordValue, refusal}
use Rattle.rustc_options.specs.Sets.{in_order}
use Rattle.rustc_options.specs.declared.data.ArgData.{ArgData}
use Rattle.rustc_options.specs.declared.data.ArgData.TheVariants as values
use Rattle.rustc_options.specs.declared.kind.ArgKind.{ArgKind}
use Rattle.rustkeys_base.specs.Facts.{facts_of}
use Rattle.rustkeys_base.specs.Saying.{Token, if_data, token_in, token_of}
use Rattle.rustc_options.specs.Sorted.{sorted_by}
use Rattle.rustkeys_base.specs.Parsing.{closing, emitted, has_kind, decision_of_refusal, decision_on}
use Rattle.rustkeys_base.specs.declared.closing.Made.{Made}
use Rattle.rustkeys_base.specs.declared.deciding.Refusal.{Refusal}
use Rattle.rustkeys_base.specs.declared.facts.Facts.{Facts}
use Rattle.rustc_options.specs.declared.parsed.ParsedArguments.{ParsedArguments}

-- whether an option on colours
abbrev pub is_color_value : ArgData → Bool
is_color_value (values.Color mode) = true
is_color_value _ = false

abbrev pub is_color : Token → Bool
is_color token = if_data is_color_value token

-- all items but those on colours, each that may be joined or separate made separate from its value
abbrev pub apart : Item ArgKind → Item ArgKind
apart (valued f k w d) = valued f k w (normalized_disposition Separated d)
apart item = item

abbrev pub wanted : List (Item ArgKind) → List (Item ArgKind)
wanted items = map apart (filter (λ item. not (is_color (token_of item))) items)

-- an argument goes to those that are kept in the same way
abbrev pub kept_with : List (Argument ArgData) → Argument ArgData → List (Argument ArgData)
kept_with kept argument = if is_color (token_in argument) then kept else kept ++ normalized Separated argument ∷ []

abbrev pub IsArgument : Item ArgKind → Argument ArgData → Type 0
IsArgument item argument = IsOf (values_by IsFlagValue IsWordValue refusal) item argument

-- the last word on colours: `always`, `never`, or any other, which leaves it to rustc
abbrev pub color_named : Bytes → ColorMode
color_named word = if bytes_eq word (codes "always") then On else if bytes_eq word (codes "never") then Off else Auto

abbrev pub color_mode : Facts → ColorMode
color_mode f = option_map_or color_named f.color Auto

-- a file that is named by the crate, with this ending
abbrev pub named_by_crate : Facts → Bytes → Bytes
named_by_crate f ending = unwrap_or f.crate_name [] ++ (unwrap_or f.extra_filename [] ++ ending)

abbrev pub emits : Facts → Bytes → Bool
emits f kind = has_kind kind (emitted f)

abbrev pub dep_info : Facts → Option Bytes
dep_info f = when (emits f (codes "dep-info")) (named_by_crate f (codes ".d"))

-- profiles count where something is linked
abbrev pub profile : Facts → Option Bytes
profile f = if emits f (codes "link") then f.profile_use else None

abbrev pub gcno : Facts → Option Bytes
gcno f = when (f.asks_gcno && emits f (codes "link")) (named_by_crate f (codes ".gcno"))

-- The file names that a static library may have, in each of the folders: the first that is there counts.
abbrev pub library_names : Bytes → List Bytes
library_names name = (codes "lib" ++ (name ++ codes ".a")) ∷ (name ++ codes ".lib") ∷ (name ++ codes ".a") ∷ []

abbrev pub library_paths : List Bytes → Bytes → List Bytes
library_paths folders name = flat_map (λ folder. map (join folder) (library_names name)) folders

abbrev pub library_in : Tree → List Bytes → Bytes → Option Bytes
library_in files folders name = find (exists_at files) (library_paths folders name)

abbrev pub static_libraries : Bytes → Tree → Facts → List Bytes
static_libraries dir files f = filter_map (library_in files (map (join dir) f.static_paths)) f.static_libraries

-- What is asked for, from this directory, with these files.
pub record IsParsed (dir : Bytes) (files : Tree) (f : Facts) (p : ParsedArguments) : Type 0 where
  pub output_dir : Some p.output_dir ≡ f.output_dir
  pub externs : p.externs ≡ sorted_by path_cmp f.externs
  pub crate_link_paths : p.crate_link_paths ≡ map (join dir) f.crate_paths
  pub staticlibs : p.staticlibs ≡ static_libraries dir files f
  pub crate_name : Some p.crate_name ≡ f.crate_name
  pub crate_types : p.crate_types ≡ record { rlib = f.rlib; staticlib = f.staticlib }
  pub dep_info : p.dep_info ≡ dep_info f
  pub profile : p.profile ≡ profile f
  pub gcno : p.gcno ≡ gcno f
  pub profile_use : p.profile_use ≡ f.profile_use
  pub emit : p.emit ≡ in_order (emitted f)
  pub color_mode : p.color_mode ≡ color_mode f
  pub has_json : p.has_json ≡ f.has_json
  pub target_json : p.target_json ≡ f.target_json

-- what is asked for is made of what is known and of what was made for it
pub record IsMadeOf (f : Facts) (m : Made) (kept : List (Argument ArgData)) (p : ParsedArguments) : Type 0 where
  pub arguments : p.arguments ≡ kept
  pub crate_link_paths : p.crate_link_paths ≡ m.crate_link_paths
  pub staticlibs : p.staticlibs ≡ m.staticlibs
  pub crate_types : p.crate_types ≡ record { rlib = f.rlib; staticlib = f.staticlib }
  pub dep_info : p.dep_info ≡ m.dep_info
  pub profile : p.profile ≡ m.profile
  pub gcno : p.gcno ≡ m.gcno
  pub profile_use : p.profile_use ≡ f.profile_use
  pub emit : p.emit ≡ m.emit
  pub color_mode : p.color_mode ≡ color_mode f
  pub has_json : p.has_json ≡ f.has_json
  pub target_json : p.target_json ≡ f.target_json

-- an answer that asks for something asks for this, with these arguments
abbrev pub IsAskedBy : Bytes → Tree → Facts → List (Argument ArgData) → CompilerArguments ParsedArguments → Type 0
IsAskedBy dir files f arguments (answers.Ok parsed) = IsParsed dir files f parsed × (parsed.arguments ≡ arguments)
IsAskedBy dir files f arguments answers.NotCompilation = Unit {0}
IsAskedBy dir files f arguments (answers.CannotCache reason more) = Unit {0}

-- the same of what words were read as
abbrev pub IsAsked : Bytes → Tree → List (Item ArgKind) → CompilerArguments ParsedArguments → Type 0
IsAsked dir files items (answers.Ok parsed) = IsParsed dir files (facts_of (map token_of items)) parsed × AllZip IsArgument (wanted items) parsed.arguments
IsAsked dir files items answers.NotCompilation = Unit {0}
IsAsked dir files items (answers.CannotCache reason more) = Unit {0}

-- what was read of the words: something that decides, or all that they say, of which the closing rules decide
abbrev pub Gathers : Bytes → Tree → Reading ArgKind → Facts → List (Argument ArgData) → Option Refusal → Type 0
Gathers dir files r f kept (Some why) = decision_of_refusal why ≡ decision_on dir files r
Gathers dir files r f kept None = (closing f ≡ decision_on dir files r) × (f ≡ facts_of (map token_of r.items)) × AllZip IsArgument (wanted r.items) kept
