-- Calls that differ in folders, in where they run and in what their files are called alone.
use Rattle.std.specs.Prelude.{◌≡◌, [], ◌++◌, filter, map}
use Rattle.std.specs.List.Sorted.{IsPermutation}
use Rattle.ckeys_base.specs.FolderPlaces.{text_places}
use Rattle.ckeys_base.specs.FromTheLeft.{stripped_of}
use Rattle.ckeys_include_records.specs.Surroundings.{contents_in}
use Rattle.ckeys.specs.Calls.{KeyCall, extra_paths, text_of}
use Rattle.ckeys_records.specs.Meaning.{Meaning, names_of}
use Rattle.ckeys_records.specs.Params.{is_cached, stripped_words}
use Rattle.rustc_options.specs.Asks.{RustAsks}
use Rattle.rustc_texts.specs.Words.{cfgs_of, rest_of}
use Rattle.rustkeys.specs.Calls.{RustCall}
use Rattle.rustkeys.specs.Questions.{answers_of}

-- Both ask one compiler for the same, but for folders: their hashed words and their texts are equal once each configuration's folders went from its own, the variables that count, what the extra files hold and the outputs' names are equal.
pub record AreSameWithoutFolders (meaning : Meaning) (one other : KeyCall) : Type 0 where
  pub compiler : one.compiler_digest ≡ other.compiler_digest
  pub plusplus : one.traits.plusplus ≡ other.traits.plusplus
  pub assembler : one.traits.assembler_digest ≡ other.traits.assembler_digest
  pub language : one.parsed.language ≡ other.parsed.language
  pub words : stripped_words one.settings.basedirs (one.parsed.common_args ++ one.parsed.arch_args) ≡ stripped_words other.settings.basedirs (other.parsed.common_args ++ other.parsed.arch_args)
  pub variables : filter is_cached one.scene.env ≡ filter is_cached other.scene.env
  pub extra_contents : map (contents_in one.scene.files) (extra_paths one) ≡ map (contents_in other.scene.files) (extra_paths other)
  pub text : stripped_of text_places one.settings.basedirs (text_of meaning one) ≡ stripped_of text_places other.settings.basedirs (text_of meaning other)
  pub names : names_of one.parsed.outputs ≡ names_of other.parsed.outputs

-- what a request to rustc asks for, without its arguments
abbrev pub without_arguments : RustAsks → RustAsks
without_arguments asks = record {
  arguments = [];
  output_dir = asks.output_dir;
  crate_name = asks.crate_name;
  externs = asks.externs;
  staticlibs = asks.staticlibs;
  emit = asks.emit;
  target_json = asks.target_json;
  dep_info = asks.dep_info;
  profile = asks.profile;
  gcno = asks.gcno;
  profile_use = asks.profile_use;
  has_json = asks.has_json;
}

-- Both ask one rustc for the same at one place, but for where the options `--cfg` are and in which order; and rustc answers both alike.
pub record AreSameButForCfgs (meaning : Meaning) (one other : RustCall) : Type 0 where
  pub known : one.known ≡ other.known
  pub scene : one.question.scene ≡ other.question.scene
  pub asks : without_arguments one.question.asks ≡ without_arguments other.question.asks
  pub rest : rest_of one.question.asks.arguments ≡ rest_of other.question.asks.arguments
  pub cfgs : IsPermutation (cfgs_of one.question.asks.arguments) (cfgs_of other.question.asks.arguments)
  pub answers : answers_of meaning one.question ≡ answers_of meaning other.question
