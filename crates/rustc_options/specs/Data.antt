-- What rustc's options say: the value of a flag, and of an option with a word.
use Rattle.std.specs.Prelude.{◌≡◌, Bool, true, false, not, ◌||◌, List, [], ◌∷◌, ◌++◌, Option, None, Some, filter, if◌then◌else◌, codes, unwrap_or}
use Rattle.std.specs.List.{list_any}
use Rattle.std.specs.Option.{option_map_or}
use Rattle.std.specs.Str.{bytes_eq}
use Rattle.base_files.specs.Bytes.{Bytes}
use Rattle.base_files.specs.Path.{extension}
use Rattle.cmdlines_base.specs.Refusal.{Refusal, because}
use Rattle.rustc_options.specs.Splitting.{before_equals, after_equals, with_equals, maybe_with_equals}
use Rattle.rustc_options.specs.Sets.{between_commas, joined_by_commas, in_order}
use Rattle.rustc_options.specs.declared.types.ArgCrateTypes.{ArgCrateTypes}
use Rattle.rustc_options.specs.declared.types.ArgExtern.{ArgExtern}
use Rattle.rustc_options.specs.declared.types.ArgLinkLibrary.{ArgLinkLibrary}
use Rattle.rustc_options.specs.declared.types.ArgLinkPath.{ArgLinkPath}
use Rattle.rustc_options.specs.declared.types.ArgOption.{ArgOption}
use Rattle.rustc_options.specs.declared.types.ArgTarget.{ArgTarget}
use Rattle.rustc_options.specs.declared.types.ArgTarget.TheVariants as targets
use Rattle.rustc_options.specs.declared.data.ArgData.{ArgData}
use Rattle.rustc_options.specs.declared.data.ArgData.TheVariants as values
use Rattle.rustc_options.specs.declared.kind.ArgKind.{ArgKind}
use Rattle.rustc_options.specs.declared.kind.ArgKind.TheVariants as kinds

-- `lib` is another name of `rlib`
abbrev pub is_rlib : Bytes → Bool
is_rlib name = bytes_eq name (codes "lib") || bytes_eq name (codes "rlib")

abbrev pub is_staticlib : Bytes → Bool
is_staticlib name = bytes_eq name (codes "staticlib")

abbrev pub is_other_type : Bytes → Bool
is_other_type name = not (is_rlib name || is_staticlib name)

-- what prints a name
abbrev pub printed_type : Bytes → Bytes
printed_type name = if is_rlib name then codes "rlib" else name

abbrev pub crate_types_of : Bytes → ArgCrateTypes
crate_types_of word = record {
  rlib = list_any is_rlib (between_commas word);
  staticlib = list_any is_staticlib (between_commas word);
  others = in_order (filter is_other_type (between_commas word));
}

-- a name that is listed, or is not
abbrev pub named_if : Bool → Bytes → List Bytes
named_if false name = []
named_if true name = name ∷ []

-- the names of all of them
abbrev pub crate_type_names : ArgCrateTypes → List Bytes
crate_type_names t = t.others ++ (named_if t.rlib (codes "rlib") ++ named_if t.staticlib (codes "staticlib"))

-- printed in the order of their bytes
abbrev pub crate_types_word : ArgCrateTypes → Bytes
crate_types_word t = joined_by_commas (in_order (crate_type_names t))

-- Without `=` the kind is `dylib`, and the word is the name.
abbrev pub link_library_by : Bytes → Option Bytes → ArgLinkLibrary
link_library_by front None = record { kind = codes "dylib"; name = front }
link_library_by front (Some back) = record { kind = front; name = back }

abbrev pub link_library_of : Bytes → ArgLinkLibrary
link_library_of word = link_library_by (before_equals word) (after_equals word)

abbrev pub link_library_word : ArgLinkLibrary → Bytes
link_library_word l = with_equals l.kind l.name

-- Without `=` the kind is `all`, and the word is the path.
abbrev pub link_path_by : Bytes → Option Bytes → ArgLinkPath
link_path_by front None = record { kind = codes "all"; path = front }
link_path_by front (Some back) = record { kind = front; path = back }

abbrev pub link_path_of : Bytes → ArgLinkPath
link_path_of word = link_path_by (before_equals word) (after_equals word)

abbrev pub link_path_word : ArgLinkPath → Bytes
link_path_word l = with_equals l.kind l.path

abbrev pub link_path_in : ArgLinkPath → Option (Bytes × Bytes)
link_path_in l = Some (with_equals l.kind [], l.path)

abbrev pub option_of : Bytes → ArgOption
option_of word = record { opt = before_equals word; value = after_equals word }

abbrev pub option_word : ArgOption → Bytes
option_word o = maybe_with_equals o.opt o.value

-- a word without `=` is refused; what it would say doesn't matter
abbrev pub extern_of : Bytes → ArgExtern
extern_of word = record { name = before_equals word; path = unwrap_or (after_equals word) [] }

abbrev pub extern_word : ArgExtern → Bytes
extern_word e = with_equals e.name e.path

abbrev pub extern_path_in : ArgExtern → Option (Bytes × Bytes)
extern_path_in e = Some (with_equals e.name [], e.path)

-- one with the extension `json` is a path
abbrev pub names_json : Bytes → Bool
names_json word = option_map_or (λ e. bytes_eq e (codes "json")) (extension word) false

abbrev pub target_of : Bytes → ArgTarget
target_of word = if names_json word then targets.Path word else targets.Name word

abbrev pub target_word : ArgTarget → Bytes
target_word (targets.Name word) = word
target_word (targets.Path word) = word
target_word (targets.Unsure word) = word

abbrev pub target_path_in : ArgTarget → Option (Bytes × Bytes)
target_path_in (targets.Path word) = Some ([], word)
target_path_in _ = None

-- what an option of that kind says with that word
abbrev pub data_of : ArgKind → Bytes → ArgData
data_of kinds.TooHardFlag w = values.TooHardFlag
data_of kinds.TooHardPath w = values.TooHardPath w
data_of kinds.NotCompilationFlag w = values.NotCompilationFlag
data_of kinds.NotCompilation w = values.NotCompilation w
data_of kinds.LinkLibrary w = values.LinkLibrary (link_library_of w)
data_of kinds.LinkPath w = values.LinkPath (link_path_of w)
data_of kinds.Emit w = values.Emit w
data_of kinds.Extern w = values.Extern (extern_of w)
data_of kinds.Color w = values.Color w
data_of kinds.Json w = values.Json w
data_of kinds.CrateName w = values.CrateName w
data_of kinds.CrateType w = values.CrateType (crate_types_of w)
data_of kinds.OutDir w = values.OutDir w
data_of kinds.CodeGen w = values.CodeGen (option_of w)
data_of kinds.PassThrough w = values.PassThrough w
data_of kinds.Target w = values.Target (target_of w)
data_of kinds.Unstable w = values.Unstable (option_of w)

-- only an extern refuses a word: one without `=`
abbrev pub without_path : Option Bytes → Option Refusal
without_path None = Some (because (codes "an extern has no path"))
without_path (Some path) = None

abbrev pub refusal : ArgKind → Bytes → Option Refusal
refusal kinds.Extern w = without_path (after_equals w)
refusal _ w = None

-- what an option of that kind is with a word that it takes
abbrev pub IsWordValue : ArgKind → Bytes → ArgData → Type 0
IsWordValue kind w value = (value ≡ data_of kind w) × (refusal kind w ≡ None)

-- what a flag says. Only flags of the first two kinds are in the table; of any other kind it would be an empty word that is passed on.
abbrev pub flag_data : ArgKind → ArgData
flag_data kinds.TooHardFlag = values.TooHardFlag
flag_data kinds.NotCompilationFlag = values.NotCompilationFlag
flag_data _ = values.PassThrough []

abbrev pub IsFlagValue : ArgKind → ArgData → Type 0
IsFlagValue kind value = value ≡ flag_data kind

-- the word that prints it
abbrev pub word_of : ArgData → Bytes
word_of values.TooHardFlag = []
word_of (values.TooHardPath w) = w
word_of values.NotCompilationFlag = []
word_of (values.NotCompilation w) = w
word_of (values.LinkLibrary l) = link_library_word l
word_of (values.LinkPath l) = link_path_word l
word_of (values.Emit w) = w
word_of (values.Extern e) = extern_word e
word_of (values.Color w) = w
word_of (values.Json w) = w
word_of (values.CrateName w) = w
word_of (values.CrateType t) = crate_types_word t
word_of (values.OutDir w) = w
word_of (values.CodeGen o) = option_word o
word_of (values.PassThrough w) = w
word_of (values.Target t) = target_word t
word_of (values.Unstable o) = option_word o

-- where its word ends in a path: what comes before that, and the path
abbrev pub path_in : ArgData → Option (Bytes × Bytes)
path_in (values.TooHardPath w) = Some ([], w)
path_in (values.OutDir w) = Some ([], w)
path_in (values.LinkPath l) = link_path_in l
path_in (values.Extern e) = extern_path_in e
path_in (values.Target t) = target_path_in t
path_in _ = None

-- all print the word that they read, but a library, a link path and crate types
abbrev pub prints_its_word : ArgKind → Bool
prints_its_word kinds.TooHardFlag = false
prints_its_word kinds.NotCompilationFlag = false
prints_its_word kinds.LinkLibrary = false
prints_its_word kinds.LinkPath = false
prints_its_word kinds.CrateType = false
prints_its_word _ = true
