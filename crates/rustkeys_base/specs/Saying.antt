-- What one item of a request's words says.
use Rattle.std.specs.Prelude.{Bool, true, false, ◌&&◌, ◌||◌, Option, None, Some, codes, if◌then◌else◌}
use Rattle.std.specs.Str.{bytes_eq}
use Rattle.base_files.specs.Bytes.{Bytes}
use Rattle.cmdlines_base.specs.Reading.{Item, raw, unknown, flag, valued, after_dashes}
use Rattle.cmdlines_base.specs.declared.argument.Argument.{Argument}
use Rattle.cmdlines_base.specs.declared.argument.Argument.TheVariants as arguments
use Rattle.cmdlines_base.specs.Choices.{when}
use Rattle.rustc_options.specs.Data.{data_of, flag_data}
use Rattle.rustc_options.specs.declared.data.ArgData.{ArgData}
use Rattle.rustc_options.specs.declared.data.ArgData.TheVariants.{Emit, Extern, Color, Json, CrateName, CrateType, OutDir, CodeGen, Target, Unstable, LinkLibrary, LinkPath}
use Rattle.rustc_options.specs.declared.kind.ArgKind.{ArgKind}
use Rattle.rustc_options.specs.declared.types.ArgTarget.TheVariants.{Path}

-- a loose word, an option with what it says, or a word that begins with `-` and is in no table
pub data Token : Type 0 where
  loose : Bytes → Token
  says : Bytes → ArgData → Token
  unread : Token

abbrev pub token_of : Item ArgKind → Token
token_of (raw w) = loose w
token_of (unknown w) = unread
token_of (flag f k) = says f (flag_data k)
token_of (valued f k w d) = says f (data_of k w)
token_of (after_dashes w) = loose w

-- the same of an argument
abbrev pub token_in : Argument ArgData → Token
token_in (arguments.Raw w) = loose w
token_in (arguments.UnknownFlag w) = unread
token_in (arguments.Flag f value) = says f.now value
token_in (arguments.WithValue f value d) = says f.now value

-- what a token says by a test of its value
abbrev pub by_data : {X : Type 0} → (ArgData → Option X) → Token → Option X
by_data said (loose w) = None
by_data said (says f value) = said value
by_data said unread = None

abbrev pub input_in : Token → Option Bytes
input_in (loose w) = Some w
input_in (says f value) = None
input_in unread = None

abbrev pub out_dir_said : ArgData → Option Bytes
out_dir_said (OutDir path) = Some path
out_dir_said _ = None

abbrev pub emit_said : ArgData → Option Bytes
emit_said (Emit kinds) = Some kinds
emit_said _ = None

abbrev pub crate_name_said : ArgData → Option Bytes
crate_name_said (CrateName name) = Some name
crate_name_said _ = None

abbrev pub color_said : ArgData → Option Bytes
color_said (Color mode) = Some mode
color_said _ = None

-- the value of that option of code generation
abbrev pub codegen_said : Bytes → ArgData → Option Bytes
codegen_said name (CodeGen o) = if bytes_eq o.opt name then o.value else None
codegen_said name _ = None

abbrev pub extra_filename_said : ArgData → Option Bytes
extra_filename_said value = codegen_said (codes "extra-filename") value

abbrev pub profile_use_said : ArgData → Option Bytes
profile_use_said value = codegen_said (codes "profile-use") value

-- the file of a target
abbrev pub target_file_said : ArgData → Option Bytes
target_file_said (Target (Path path)) = Some path
target_file_said _ = None

abbrev pub extern_said : ArgData → Option Bytes
extern_said (Extern e) = Some e.path
extern_said _ = None

-- the name of a static library
abbrev pub static_library_said : ArgData → Option Bytes
static_library_said (LinkLibrary l) = when (bytes_eq l.kind (codes "static")) l.name
static_library_said _ = None

-- folders of crates are those of the kinds `crate`, `dependency` and `all`
abbrev pub holds_crates : Bytes → Bool
holds_crates kind = bytes_eq kind (codes "crate") || (bytes_eq kind (codes "dependency") || bytes_eq kind (codes "all"))

abbrev pub crate_path_said : ArgData → Option Bytes
crate_path_said (LinkPath l) = when (holds_crates l.kind) l.path
crate_path_said _ = None

-- folders of static libraries are those of the kinds `native` and `all`
abbrev pub holds_libraries : Bytes → Bool
holds_libraries kind = bytes_eq kind (codes "native") || bytes_eq kind (codes "all")

abbrev pub static_path_said : ArgData → Option Bytes
static_path_said (LinkPath l) = when (holds_libraries l.kind) l.path
static_path_said _ = None

-- whether a test of a token's value passes
abbrev pub if_data : (ArgData → Bool) → Token → Bool
if_data test (loose w) = false
if_data test (says f value) = test value
if_data test unread = false

abbrev pub is_json : ArgData → Bool
is_json (Json w) = true
is_json _ = false

abbrev pub gives_rlib : ArgData → Bool
gives_rlib (CrateType t) = t.rlib
gives_rlib _ = false

abbrev pub gives_staticlib : ArgData → Bool
gives_staticlib (CrateType t) = t.staticlib
gives_staticlib _ = false

-- without a value an option is on
abbrev pub is_on : Option Bytes → Bool
is_on None = true
is_on (Some value) = bytes_eq value (codes "y") || (bytes_eq value (codes "yes") || bytes_eq value (codes "on"))

-- `-Z profile`
abbrev pub asks_gcno : ArgData → Bool
asks_gcno (Unstable o) = bytes_eq o.opt (codes "profile") && is_on o.value
asks_gcno _ = false
