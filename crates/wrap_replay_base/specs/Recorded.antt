-- What a replaying tool means: each step gives the recorded answer to what was recorded, and fails for all else.
use Rattle.std.specs.BTreeMap.{get}
use Rattle.std.specs.Cmp.Lexicographic.{slice_cmp}
use Rattle.std.specs.Ordering.{nat_cmp}
use Rattle.std.specs.Prelude.{◌≡◌, pos, Bool, ◌&&◌, [], ◌∷◌, List, map, Option, None, Some, option_and_then, if◌then◌else◌}
use Rattle.std.specs.Str.{bytes_eq}
use Rattle.base_files.specs.Bytes.{Bytes}
use Rattle.cmdlines_base.specs.Artifacts.{Artifacts}
use Rattle.ckeys_records.specs.Meaning.{Asked, Made, Meaning, options, words, archive, asked_of, made_of, names_of}
use Rattle.ckeys_records.specs.declared.output_name.OutputName.{OutputName}
use Rattle.ckeys_records.specs.declared.preprocessor.Printed.{Printed}
use Rattle.ckeys_records.specs.declared.step.Step.{Step}
use Rattle.ckeys_records.specs.declared.step.Step.TheVariants.{Preprocess, Compile, DepInfo, FileNames, ArchiveDigest}
use Rattle.wrap_base.specs.declared.tool.Compiled.{Compiled}
use Rattle.wrap_replay_base.specs.SameAsked.{same_asked, same_list, same_name}
use Rattle.wrap_replay_base.specs.declared.replay_tool.RecordedOutputs.{RecordedOutputs}
use Rattle.wrap_replay_base.specs.declared.replay_tool.RecordedText.{RecordedText}
use Rattle.wrap_replay_base.specs.declared.replay_tool.Wanted.{Wanted}
use Rattle.wrap_replay_base.specs.declared.rustc_records.RecordedAnswer.{RecordedAnswer}
use Rattle.wrap_replay_base.specs.declared.rustc_records.RecordedCrate.{RecordedCrate}
use Rattle.wrap_replay_base.specs.declared.rustc_records.RecordedRustc.{RecordedRustc}

-- a step that failed and made nothing
abbrev pub unmade : Made
unmade = made_of (pos 1) []

-- what was printed, what was made, and a digest that was handed in
abbrev pub printed_as : Printed → Made
printed_as p = made_of p.status (Some p.text ∷ [])

abbrev pub made_as : Compiled → Made
made_as m = made_of m.status m.contents

abbrev pub handed_as : Bytes → Made
handed_as digest = made_of (pos 0) (Some digest ∷ [])

abbrev pub printed_in : RecordedText → Made
printed_in r = printed_as r.printed

abbrev pub made_in : RecordedOutputs → Made
made_in r = made_as r.made

-- the answer to the words of which it was recorded
abbrev pub printed_for : Option RecordedText → Asked → Made
printed_for None asked = unmade
printed_for (Some r) asked = if same_asked asked (asked_of r.kind r.words) then printed_in r else unmade

abbrev pub made_for : Option RecordedOutputs → Asked → List OutputName → Made
made_for None asked names = unmade
made_for (Some r) asked names = if same_asked asked (asked_of r.kind r.words) && same_list same_name names r.names then made_in r else unmade

-- what was recorded of rustc: what it reported of dependencies and of names, what it made, and the digest of a static library
abbrev pub on_dependencies : Option RecordedRustc → Option RecordedAnswer
on_dependencies rustc = option_and_then (λ (r : RecordedRustc). r.dep_info) rustc

abbrev pub on_names : Option RecordedRustc → Option RecordedAnswer
on_names rustc = option_and_then (λ (r : RecordedRustc). r.file_names) rustc

abbrev pub crate_of : Option RecordedRustc → Option RecordedCrate
crate_of rustc = option_and_then (λ (r : RecordedRustc). r.outputs) rustc

abbrev pub digest_in : RecordedRustc → Bytes → Option Bytes
digest_in r path = get (slice_cmp nat_cmp) r.digests path

abbrev pub library_digest : Option RecordedRustc → Bytes → Option Bytes
library_digest rustc path = option_and_then (λ (r : RecordedRustc). digest_in r path) rustc

-- its answer to the words of which it was recorded, in the folder in which it was
abbrev pub told_for : Option RecordedAnswer → Asked → Bytes → Made
told_for None asked dir = unmade
told_for (Some r) asked dir = if same_asked asked (words r.words) && bytes_eq dir r.dir then printed_as r.printed else unmade

abbrev pub crate_for : Option RecordedCrate → Asked → List OutputName → Bytes → Made
crate_for None asked names dir = unmade
crate_for (Some r) asked names dir = if same_asked asked (words r.words) && (same_list same_name names r.names && bytes_eq dir r.dir) then made_as r.made else unmade

-- what a compile gives: of a C compiler, which is asked by what its tables read, or of rustc, which is asked by its words
abbrev pub compiled_for : Option RecordedOutputs → Option RecordedCrate → Asked → List OutputName → Bytes → Made
compiled_for outputs made (options reading) names dir = made_for outputs (options reading) names
compiled_for outputs made (words command) names dir = crate_for made (words command) names dir
compiled_for outputs made (archive path) names dir = unmade

abbrev pub handed_in : Option Bytes → Made
handed_in None = unmade
handed_in (Some digest) = handed_as digest

abbrev pub digest_for : Option RecordedRustc → Asked → Made
digest_for rustc (options reading) = unmade
digest_for rustc (words command) = unmade
digest_for rustc (archive path) = handed_in (library_digest rustc path)

abbrev pub recorded : Option RecordedText → Option RecordedOutputs → Option RecordedRustc → Meaning
recorded text outputs rustc Preprocess asked names scene = printed_for text asked
recorded text outputs rustc Compile asked names scene = compiled_for outputs (crate_of rustc) asked names scene.dir
recorded text outputs rustc DepInfo asked names scene = told_for (on_dependencies rustc) asked scene.dir
recorded text outputs rustc FileNames asked names scene = told_for (on_names rustc) asked scene.dir
recorded text outputs rustc ArchiveDigest asked names scene = digest_for rustc asked

-- outputs of these names, with their marks
abbrev pub same_outputs : Artifacts → List OutputName → Bool
same_outputs outputs names = same_list same_name (names_of outputs) names

-- where outputs go
abbrev pub paths_in : Artifacts → List Bytes
paths_in outputs = map (λ output. output.1.path) outputs

-- a command of that step is remembered
abbrev pub Wants : Step → Option Wanted → Type 0
Wants step wanted = (w : Wanted) × (wanted ≡ Some w) × (w.step ≡ step)
