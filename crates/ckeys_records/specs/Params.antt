-- The record of what was handed in.
use Rattle.std.specs.Prelude.{Bool, false, ◌||◌, List, [], ◌++◌, map, filter, string_bytes, codes, Option, None}
use Rattle.std.specs.Option.{option_map}
use Rattle.std.specs.Str.{bytes_eq}
use Rattle.base_files.specs.Bytes.{Bytes}
use Rattle.cmdlines_tables.specs.declared.language.Language.{Language}
use Rattle.ckeys_base.specs.FolderPlaces.{text_places, argument_places}
use Rattle.ckeys_base.specs.FromTheLeft.{stripped_of}
use Rattle.ckeys_records.specs.Records.{Variable, HashedParts}
use Rattle.ckeys_records.specs.declared.params.HashKeyParams.{HashKeyParams}

-- what is handed in: the compiler's digest, the language, the hashed words, those that name architectures, and the text, digests of extra files, the environment, whether C++ is compiled, the folders that don't count, and the digest of the assembler
pub record Handed : Type 0 where
  pub compiler_digest : Bytes
  pub language : Language
  pub arguments : List Bytes
  pub arch_args : List Bytes
  pub preprocessor_output : Bytes
  pub extra_hashes : List Bytes
  pub env_vars : List Variable
  pub plusplus : Bool
  pub basedirs : List Bytes
  pub assembler_digest : Option Bytes

-- the first four alone
abbrev pub handed_alone : Bytes → Language → List Bytes → Bytes → Handed
handed_alone compiler_digest language arguments preprocessor_output = record {
  compiler_digest = compiler_digest;
  language = language;
  arguments = arguments;
  arch_args = [];
  preprocessor_output = preprocessor_output;
  extra_hashes = [];
  env_vars = [];
  plusplus = false;
  basedirs = [];
  assembler_digest = None;
}

abbrev pub handed_of : HashKeyParams → Handed
handed_of p = record {
  compiler_digest = p.compiler_digest.now;
  language = p.language;
  arguments = p.arguments.now;
  arch_args = p.arch_args.now;
  preprocessor_output = p.preprocessor_output.now;
  extra_hashes = map string_bytes p.extra_hashes.now;
  env_vars = p.env_vars.now;
  plusplus = p.plusplus;
  basedirs = p.basedirs.now;
  assembler_digest = option_map (λ digest. digest.now) p.assembler_digest;
}

-- the variables that count: outputs depend on them, or a user sets them to start over
abbrev pub is_cached : Variable → Bool
is_cached v = bytes_eq v.0 (codes "SCCACHE_C_CUSTOM_CACHE_BUSTER") || bytes_eq v.0 (codes "MACOSX_DEPLOYMENT_TARGET") || bytes_eq v.0 (codes "IPHONEOS_DEPLOYMENT_TARGET")

-- words without the folders
abbrev pub stripped_words : List Bytes → List Bytes → List Bytes
stripped_words folders words = map (stripped_of argument_places folders) words

abbrev pub parts_handed : Handed → HashedParts
parts_handed h = record {
  compiler_digest = h.compiler_digest;
  plusplus = h.plusplus;
  language = h.language;
  words = stripped_words h.basedirs (h.arguments ++ h.arch_args);
  variables = filter is_cached h.env_vars;
  extra_hashes = h.extra_hashes;
  assembler_digest = h.assembler_digest;
  text = stripped_of text_places h.basedirs h.preprocessor_output;
}

-- A state that was fed these bytes: whatever it held, they come after it.
abbrev pub IsFed : {H : Type 0} → (H → Bytes → Type 0) → H → Bytes → H → Type 0
IsFed holds old bytes new = (held : Bytes) → holds old held → holds new (held ++ bytes)
