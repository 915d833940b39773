-- What the scripted rustc makes of a crate.
use Rattle.std.specs.Prelude.{pos, Bool, if◌then◌else◌, List, [], map, Option, None, Some, option_and_then, unwrap_or, codes}
use Rattle.std.specs.BTreeMap.{get}
use Rattle.std.specs.Cmp.Lexicographic.{slice_cmp}
use Rattle.std.specs.Option.{option_map}
use Rattle.std.specs.Ordering.{nat_cmp}
use Rattle.std.specs.Str.{is_utf8}
use Rattle.base_files.specs.Bytes.{Bytes}
use Rattle.base_files.specs.Path.{path_cmp}
use Rattle.base_files.specs.Tree.{Tree, contents_at}
use Rattle.rustc_options.specs.Sorted.{sorted_by}
use Rattle.rustc_texts.specs.DepInfo.{sources_of}
use Rattle.ckeys_records.specs.Meaning.{Scene, Made, made_of}
use Rattle.ckeys_records.specs.declared.output_name.OutputName.{OutputName}
use Rattle.sccache_script_tool.specs.Texts.{holds, whole}
use Rattle.sccache_script_tool.specs.declared.crate_texts.CrateTexts.{CrateTexts}

-- the digest of the static library of this path, which is the empty text where none is given
abbrev pub digest_in : CrateTexts → Bytes → Bytes
digest_in told path = unwrap_or (get (slice_cmp nat_cmp) told.archives path) []

-- the sources that a text on dependencies names, in order: none where it isn't UTF-8 or begins with no rule
abbrev pub told_sources : Bytes → Bytes → Option (List Bytes)
told_sources dir text = if is_utf8 text then option_map (sorted_by path_cmp) (sources_of dir text) else None

-- the contents of files in a row, where all of them are there
abbrev pub joined_contents : Tree → List Bytes → Option Bytes
joined_contents files paths = whole (map (contents_at files) paths)

-- the text of a crate: the contents of its sources
abbrev pub crate_text : Bytes → Scene → Option Bytes
crate_text dep_info scene = option_and_then (joined_contents scene.files) (told_sources scene.dir dep_info)

-- the text is made, but nothing of an optional output
abbrev pub made_where : Bool → Bytes → Option Bytes
made_where optional text = if optional then None else Some text

-- what is made of each output
abbrev pub made_of_text : Bytes → List OutputName → List (Option Bytes)
made_of_text text outputs = map (λ output. made_where output.optional text) outputs

-- rustc makes the text into each output but the optional ones, and fails where there is none or it holds `#error`
abbrev pub compiled_crate : Option Bytes → List OutputName → Made
compiled_crate None outputs = made_of (pos 1) []
compiled_crate (Some text) outputs =
    if holds (codes "#error") text then made_of (pos 1) [] else made_of (pos 0) (made_of_text text outputs)
