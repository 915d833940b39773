-- What a request writes: the names that rustc reports, and where each goes.
use Rattle.std.specs.Prelude.{◌≡◌, nat_eq, Bool, true, false, not, ◌==◌, ◌&&◌, ◌||◌, List, [], ◌∷◌, ◌++◌, length, drop, map, filter, fold, codes, Option, None, Some, if◌then◌else◌}
use Rattle.std.specs.BTreeSet.{BTreeSet, contains}
use Rattle.std.specs.Cmp.Lexicographic.{slice_cmp}
use Rattle.std.specs.Ordering.{nat_cmp}
use Rattle.std.specs.List.{ends_with, list_all, list_any, starts_with}
use Rattle.std.specs.Option.{option_to_list}
use Rattle.std.specs.Str.{bytes_eq}
use Rattle.std.specs.Str.Lines.{lines}
use Rattle.base_files.specs.Bytes.{Bytes}
use Rattle.base_files.specs.Path.{join}
use Rattle.cmdlines_base.specs.Artifacts.{Artifacts}
use Rattle.cmdlines_base.specs.declared.command.ArtifactDescriptor.{ArtifactDescriptor}
use Rattle.rustc_options.specs.Asks.{RustAsks}

-- whether one of the names is that name
abbrev pub has_name : List Bytes → Bytes → Bool
has_name names name = list_any (bytes_eq name) names

-- each name once, where it occurs first
abbrev pub each_once : List Bytes → List Bytes
each_once [] = []
each_once (name ∷ names) = name ∷ filter (λ other. not (bytes_eq name other)) (each_once names)

-- a set has exactly these names
abbrev pub Tells : BTreeSet Bytes → List Bytes → Type 0
Tells told names = (name : Bytes) → contains (slice_cmp nat_cmp) told name ≡ has_name names name

-- The names that rustc reports: the lines of its answer.
abbrev pub named : Bytes → List Bytes
named text = each_once (lines text)

-- Where nothing but metadata and dependencies is written, binaries aren't, although rustc reports them.
abbrev pub is_no_binary : Bytes → Bool
is_no_binary kind = bytes_eq kind (codes "metadata") || bytes_eq kind (codes "dep-info")

abbrev pub writes_no_binary : List Bytes → Bool
writes_no_binary emit = not (length emit == 0) && list_all is_no_binary emit

abbrev pub is_rlib : Bytes → Bool
is_rlib name = ends_with nat_eq name (codes ".rlib")

abbrev pub is_of_crate : Bytes → Bool
is_of_crate name = is_rlib name || ends_with nat_eq name (codes ".rmeta")

abbrev pub without_binaries : List Bytes → List Bytes → List Bytes
without_binaries emit names = if writes_no_binary emit then filter is_of_crate names else names

-- the name of a library's metadata: its first `.rlib` is `.rmeta`
abbrev pub metadata_name : Bytes → Bytes
metadata_name [] = []
metadata_name (b ∷ bs) = if starts_with nat_eq (b ∷ bs) (codes ".rlib") then codes ".rmeta" ++ drop 5 (b ∷ bs) else b ∷ metadata_name bs

-- a name at the end, unless it's there
abbrev pub with_name : List Bytes → Bytes → List Bytes
with_name names name = if has_name names name then names else names ++ name ∷ []

abbrev pub without_name : List Bytes → Bytes → List Bytes
without_name names name = filter (λ other. not (bytes_eq name other)) names

-- Metadata of a library is written beside it where the library is linked, and else in its place.
abbrev pub with_metadata_of : Bool → List Bytes → Bytes → List Bytes
with_metadata_of links names library =
    let both = with_name names (metadata_name library) in
    if links then both else without_name both library

-- that of each library, one after another
abbrev pub with_metadata : List Bytes → List Bytes → List Bytes
with_metadata emit names =
    let links = has_name emit (codes "link") in
    if has_name emit (codes "metadata") then fold (with_metadata_of links) names (filter is_rlib names) else names

-- The names that a request to write these kinds writes, by rustc's answer.
abbrev pub output_names : List Bytes → Bytes → List Bytes
output_names emit text = with_metadata emit (without_binaries emit (named text))

-- an output in that folder, which has to be written
abbrev pub demanded : Bytes → Bytes → Bytes × ArtifactDescriptor
demanded folder name = (name, record { path = join folder name; optional = false })

-- one that may be left out
abbrev pub optional : Bytes → Bytes → Bytes × ArtifactDescriptor
optional folder name = (name, record { path = join folder name; optional = true })

-- an output may be left out if it might before, or has that name
abbrev pub optional_if : Bytes → Bytes × ArtifactDescriptor → Bytes × ArtifactDescriptor
optional_if name output = (output.0, record { path = output.1.path; optional = output.1.optional || bytes_eq name output.0 })

abbrev pub is_there : Artifacts → Bytes → Bool
is_there outputs name = list_any (λ (output : Bytes × ArtifactDescriptor). bytes_eq name output.0) outputs

-- one more that may be left out: in its place where it's there, and else at the end
abbrev pub with_optional : Bytes → Artifacts → Option Bytes → Artifacts
with_optional folder outputs None = outputs
with_optional folder outputs (Some name) = if is_there outputs name then map (optional_if name) outputs else outputs ++ optional folder name ∷ []

-- Each of the names in the folder of the outputs, and the profile and the file of notes, which may be left out.
abbrev pub outputs_with : RustAsks → List Bytes → Artifacts
outputs_with asks names = with_optional asks.output_dir (with_optional asks.output_dir (map (demanded asks.output_dir) names) asks.profile) asks.gcno

abbrev pub outputs_of : RustAsks → Bytes → Artifacts
outputs_of asks text = outputs_with asks (output_names asks.emit text)

-- The targets of the text on dependencies: its own path, and those of the names; the profile and the file of notes are none.
abbrev pub targets_with : RustAsks → List Bytes → List Bytes
targets_with asks names = map (join asks.output_dir) (option_to_list asks.dep_info ++ names)

abbrev pub targets_of : RustAsks → Bytes → List Bytes
targets_of asks text = targets_with asks (output_names asks.emit text)

-- A library of that stem, and its metadata.
abbrev pub library : Bytes → Bytes
library stem = stem ++ codes ".rlib"

abbrev pub metadata : Bytes → Bytes
metadata stem = stem ++ codes ".rmeta"

-- what comes after the first `.rlib` of a name
abbrev pub after_rlib : Bytes → Option Bytes
after_rlib [] = None
after_rlib (b ∷ bs) = if starts_with nat_eq (b ∷ bs) (codes ".rlib") then Some (drop 5 (b ∷ bs)) else after_rlib bs

-- the library has `.rlib` at its end alone
abbrev pub EndsInOne : Bytes → Type 0
EndsInOne stem = after_rlib (library stem) ≡ Some []
