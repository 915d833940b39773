-- What the scripted tool means.
use Rattle.std.specs.Prelude.{pos, Bool, false, not, if◌then◌else◌, List, [], ◌∷◌, ◌++◌, map, Option, None, Some, option_and_then, codes}
use Rattle.std.specs.List.{flat_map}
use Rattle.std.specs.Option.{option_map, option_map_or}
use Rattle.base_files.specs.Bytes.{Bytes}
use Rattle.base_files.specs.Path.{join}
use Rattle.base_files.specs.Tree.{Tree, contents_at}
use Rattle.cmdlines_base.specs.Reading.{Item, raw, valued, after_dashes, Reading}
use Rattle.cmdlines_tables.specs.Languages.{language_named}
use Rattle.cmdlines_tables.specs.declared.kind.ArgKind.{ArgKind}
use Rattle.cmdlines_tables.specs.declared.kind.ArgKind.TheVariants.{Language}
use Rattle.ckeys_base.specs.FolderPlaces.{text_places}
use Rattle.ckeys_base.specs.FromTheLeft.{stripped_of}
use Rattle.ckeys.specs.Calls.{needs_preprocessing}
use Rattle.ckeys_records.specs.Meaning.{Scene, Made, Meaning, archive, made_of, options, words}
use Rattle.ckeys_records.specs.declared.output_name.OutputName.{OutputName}
use Rattle.ckeys_records.specs.declared.step.Step.{Step}
use Rattle.ckeys_records.specs.declared.step.Step.TheVariants.{Preprocess, Compile, DepInfo, FileNames, ArchiveDigest}
use Rattle.sccache_script_tool.specs.Lines.{lines, with_end, included}
use Rattle.sccache_script_tool.specs.ScriptedCrates.{compiled_crate, crate_text, digest_in}
use Rattle.sccache_script_tool.specs.Texts.{holds, whole}
use Rattle.sccache_script_tool.specs.declared.crate_texts.CrateTexts.{CrateTexts}
use Rattle.sccache_script_tool.specs.declared.source.Source.{Source}

-- the one of a list that has one
abbrev pub only : List Bytes → Option Bytes
only [] = None
only (word ∷ []) = Some word
only (word ∷ other ∷ others) = None

-- a loose item, also after double dashes
abbrev pub input_in : Item ArgKind → List Bytes
input_in (raw w) = w ∷ []
input_in (after_dashes w) = w ∷ []
input_in _ = []

-- the language that an item names
abbrev pub language_in : Item ArgKind → List Bytes
language_in (valued option Language name how) = name ∷ []
language_in _ = []

-- the one word of a command that its items give, unless it is cut short
abbrev pub one_in : (Item ArgKind → List Bytes) → Reading ArgKind → Option Bytes
one_in words_in reading = if reading.cut_short then None else only (flat_map words_in reading.items)

-- what a command compiles: its one loose item, and the language that it names
abbrev pub source_in : Reading ArgKind → Source
source_in reading = record { input = one_in input_in reading; language = one_in language_in reading }

-- the name of a language whose inputs aren't preprocessed
abbrev pub is_preprocessed : Bytes → Bool
is_preprocessed name = option_map_or (λ language. not (needs_preprocessing language)) (language_named name) false

-- a compile takes an input of such a language as it is
abbrev pub takes_as_it_stands : Step → Option Bytes → Bool
takes_as_it_stands Compile None = false
takes_as_it_stands Compile (Some name) = is_preprocessed name
takes_as_it_stands _ language = false

-- the line that says which file the lines after it are from
abbrev pub marker : Bytes → Bytes
marker path = codes "# 1 \"" ++ path ++ codes "\"\n"

-- what replaces a line that includes a file: a marker of the file, its bytes with a line end, and a marker of the path that the line is from
abbrev pub inclusion : Bytes → Bytes → Bytes → Bytes
inclusion path file contents = marker file ++ with_end contents ++ marker path

-- what replaces a line: the line itself, or the file that it includes, where that is a regular file
abbrev pub replaced : Tree → Bytes → Bytes → Bytes → Option Bytes
replaced files dir path line =
    option_map_or (λ name. let file = join dir name in option_map (inclusion path file) (contents_at files file)) (included line) (Some line)

-- the text of the file of that path, by whose lines files are included from the directory
abbrev pub text_at : Tree → Bytes → Bytes → Option Bytes
text_at files dir path =
    option_and_then (λ contents. whole (Some (marker path) ∷ map (replaced files dir path) (lines contents))) (contents_at files path)

-- the text of an input: the preprocessed one, or its bytes as they are
abbrev pub text_by : Bool → Scene → Bytes → Option Bytes
text_by as_it_stands scene input = if as_it_stands then contents_at scene.files (join scene.dir input) else text_at scene.files scene.dir (join scene.dir input)

-- the text that a step goes over
abbrev pub text_of : Step → Scene → Source → Option Bytes
text_of step scene source = option_and_then (text_by (takes_as_it_stands step source.language) scene) source.input

-- a preprocessor prints the text, and fails where there is none
abbrev pub printed : Option Bytes → Made
printed None = made_of (pos 1) (Some [] ∷ [])
printed (Some text) = made_of (pos 0) (Some text ∷ [])

-- a compiler makes the text into each output, and fails where there is none or it holds `#error`
abbrev pub compiled : Option Bytes → List OutputName → Made
compiled None outputs = made_of (pos 1) []
compiled (Some text) outputs =
    if holds (codes "#error") text then made_of (pos 1) [] else made_of (pos 0) (map (λ output. Some text) outputs)

-- a text without the folders
abbrev pub without : List Bytes → Option Bytes → Option Bytes
without folders text = option_map (stripped_of text_places folders) text

-- One function of the step, what is asked, the outputs asked for and the scene, for these folders and rustc's set texts: the preprocessor prints the text, and a C compiler makes outputs of what is left of it without the folders. rustc gives its texts, and makes outputs of the sources that it gives. To all else it answers with status 1.
abbrev pub scripted : List Bytes → CrateTexts → Meaning
scripted folders told Preprocess (options reading) outputs scene = printed (text_of Preprocess scene (source_in reading))
scripted folders told Compile (options reading) outputs scene = compiled (without folders (text_of Compile scene (source_in reading))) outputs
scripted folders told Compile (words command) outputs scene = compiled_crate (crate_text told.dep_info scene) outputs
scripted folders told DepInfo asked outputs scene = printed (Some told.dep_info)
scripted folders told FileNames asked outputs scene = printed (Some told.file_names)
scripted folders told ArchiveDigest (archive path) outputs scene = printed (Some (digest_in told path))
scripted folders told _ _ outputs scene = made_of (pos 1) []
