-- Worlds: what a compiler means, whatever that is.
use Rattle.std.specs.Prelude.{◌≡◌, [], Option, Some}
use Rattle.base_files.specs.Bytes.{Bytes}
use Rattle.base_files.specs.Tree.{Tree}
use Rattle.ckeys_records.specs.Meaning.{Meaning, Scene, archive, asked_of, scene_with, words}
use Rattle.ckeys_records.specs.declared.step.Step.TheVariants.{Preprocess, Compile, DepInfo, FileNames, ArchiveDigest}
use Rattle.rustkeys.specs.Questions.{compile_env_of}
use Rattle.wrap.specs.Account.{scene_at}
use Rattle.wrap_base.specs.Commands.{NamedBy, by_c, by_rustc, named_by}
use Rattle.wrap_base.specs.declared.request.Request.{Request}
use Rattle.wrap_replay_base.specs.Recorded.{crate_of, library_digest, handed_as, made_as, made_in, on_dependencies, on_names, printed_as, printed_in}
use Rattle.wrap_replay_base.specs.declared.replay_tool.RecordedOutputs.{RecordedOutputs}
use Rattle.wrap_replay_base.specs.declared.replay_tool.RecordedText.{RecordedText}
use Rattle.wrap_replay_base.specs.declared.rustc_records.RecordedAnswer.{RecordedAnswer}
use Rattle.wrap_replay_base.specs.declared.rustc_records.RecordedCrate.{RecordedCrate}
use Rattle.wrap_replay_base.specs.declared.rustc_records.RecordedRustc.{RecordedRustc}

-- A world gives the recorded answers: where and when this call runs, each is what it gives for what the compiler's tables read of the recorded words, and for outputs of the recorded names.
pub record Gives (text : Option RecordedText) (outputs : Option RecordedOutputs) (scene : Scene) (world : Meaning) : Type 0 where
  pub printed : (r : RecordedText) → text ≡ Some r → world Preprocess (asked_of r.kind r.words) [] scene ≡ printed_in r
  pub made : (r : RecordedOutputs) → outputs ≡ Some r → world Compile (asked_of r.kind r.words) r.names scene ≡ made_in r

-- where and when rustc compiles: under the variables with which a request is compiled
abbrev pub compile_scene : Scene → Scene
compile_scene scene = scene_with scene.executable scene.dir (compile_env_of scene.env) scene.files scene.moment

-- A world gives what was recorded of rustc: where and when this call runs, if that is the recorded folder, each answer is what it gives for the recorded words, and for outputs of the recorded names; and each digest of a static library is the one that it hands in.
pub record GivesOfRustc (rustc : Option RecordedRustc) (scene : Scene) (world : Meaning) : Type 0 where
  pub dep_info : (r : RecordedAnswer) → on_dependencies rustc ≡ Some r → scene.dir ≡ r.dir → world DepInfo (words r.words) [] scene ≡ printed_as r.printed
  pub file_names : (r : RecordedAnswer) → on_names rustc ≡ Some r → scene.dir ≡ r.dir → world FileNames (words r.words) [] scene ≡ printed_as r.printed
  pub digests : (path digest : Bytes) → library_digest rustc path ≡ Some digest → world ArchiveDigest (archive path) [] scene ≡ handed_as digest
  pub made : (r : RecordedCrate) → crate_of rustc ≡ Some r → scene.dir ≡ r.dir → world Compile (words r.words) r.names (compile_scene scene) ≡ made_as r.made

-- a world gives the recorded answers to a request on files of this tree
abbrev pub GivesNamed : NamedBy → Option RecordedText → Option RecordedOutputs → Option RecordedRustc → Request → Tree → Meaning → Type 0
GivesNamed (by_c found) text outputs rustc request tree world = Gives text outputs (scene_at found.executable request tree) world
GivesNamed (by_rustc rust) text outputs rustc request tree world = GivesOfRustc rustc (scene_at rust.executable request tree) world

abbrev pub GivesTo : Option RecordedText → Option RecordedOutputs → Option RecordedRustc → Request → Tree → Meaning → Type 0
GivesTo text outputs rustc request tree world = GivesNamed (named_by request.compiler) text outputs rustc request tree world
