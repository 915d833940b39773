-- What rustc is asked before a request has its key, and what it answers.
use Rattle.std.specs.Prelude.{ℤ, List, [], map, filter, Option, unwrap_or}
use Rattle.std.specs.Option.{option_map}
use Rattle.base_files.specs.Bytes.{Bytes}
use Rattle.base_files.specs.Path.{join, path_cmp}
use Rattle.base_files.specs.Tree.{Tree}
use Rattle.ckeys_records.specs.Meaning.{text_in}
use Rattle.ckeys_records.specs.Meaning.{Made, Meaning, Scene, Variables, archive, scene_with, words}
use Rattle.ckeys_records.specs.declared.step.Step.TheVariants.{ArchiveDigest, DepInfo, FileNames}
use Rattle.rustc_parts.specs.Orders.{env_dep_cmp, pair_cmp}
use Rattle.rustc_parts.specs.declared.parts.EnvDep.{EnvDep}
use Rattle.rustc_texts.specs.DepInfo.{sources_of}
use Rattle.rustc_texts.specs.EnvDeps.{env_deps_of}
use Rattle.rustc_texts.specs.Variables.{compiles_with, counts}
use Rattle.rustc_texts.specs.Words.{dep_info_words, file_names_words}
use Rattle.rustc_options.specs.Asks.{RustAsks, asks_in}
use Rattle.rustc_options.specs.Sorted.{sorted_by}
use Rattle.rustkeys.specs.declared.place.RustPlace.{RustPlace}

-- what a request asks for, and where and when its commands run
pub record Question : Type 0 where
  pub asks : RustAsks
  pub scene : Scene

-- that of a request at its place, on these files, at that moment
abbrev pub question_of : RustPlace → Tree → ℤ → Question
question_of place files moment = record {
  asks = asks_in place.parsed.now;
  scene = scene_with place.executable.now place.dir.now place.env.now files moment;
}

-- What rustc reports of what the crate depends on, and of the names of its outputs.
abbrev pub dep_info_of : Meaning → Question → Made
dep_info_of meaning q = meaning DepInfo (words (dep_info_words q.asks)) [] q.scene

abbrev pub file_names_of : Meaning → Question → Made
file_names_of meaning q = meaning FileNames (words (file_names_words q.asks)) [] q.scene

-- what the tool gives as the digest of a static library
abbrev pub digest_at : Meaning → Scene → Bytes → Bytes
digest_at meaning scene path = text_in (meaning ArchiveDigest (archive path) [] scene).contents

-- all answers: on dependencies, on names, and each static library with its digest
pub record Answers : Type 0 where
  pub dep_info : Made
  pub file_names : Made
  pub archives : List (Bytes × Bytes)

abbrev pub digested : Meaning → Scene → List Bytes → List (Bytes × Bytes)
digested meaning scene paths = map (λ path. (path, digest_at meaning scene path)) paths

abbrev pub answers_of : Meaning → Question → Answers
answers_of meaning q = record { dep_info = dep_info_of meaning q; file_names = file_names_of meaning q; archives = digested meaning q.scene q.asks.staticlibs }

-- The sources that a text on dependencies names, and the variables that these name, in order.
abbrev pub sources_in : Bytes → Bytes → List Bytes
sources_in dir text = sorted_by path_cmp (unwrap_or (sources_of dir text) [])

abbrev pub env_deps_in : Bytes → List EnvDep
env_deps_in text = sorted_by env_dep_cmp (env_deps_of text)

-- The variables of a call that count, and those with which it's compiled, in order.
abbrev pub counted_in : Variables → Variables
counted_in env = sorted_by pair_cmp (filter (λ pair. counts pair.0) env)

abbrev pub compile_env_of : Variables → Variables
compile_env_of env = sorted_by pair_cmp (filter (λ pair. compiles_with pair.0) env)

-- Crates that are named, the target's file and the profile are read from the directory.
abbrev pub extern_paths : Question → List Bytes
extern_paths q = map (join q.scene.dir) q.asks.externs

abbrev pub target_path : Question → Option Bytes
target_path q = option_map (join q.scene.dir) q.asks.target_json

abbrev pub profile_path : Question → Option Bytes
profile_path q = option_map (join q.scene.dir) q.asks.profile_use
