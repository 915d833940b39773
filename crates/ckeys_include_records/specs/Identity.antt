-- Who asks: the compiler, where it runs, and all that its request says.
use Rattle.std.specs.Prelude.{Bool, List, [], ◌∷◌, Option, codes}
use Rattle.std.specs.Option.{option_map, option_to_list}
use Rattle.base_files.specs.Bytes.{Bytes}
use Rattle.cmdlines_tables.specs.CompilerFacts.{kind_name}
use Rattle.cmdlines_tables.specs.Languages.{name_of}
use Rattle.cmdlines_tables.specs.declared.compiler.CCompilerKind.{CCompilerKind}
use Rattle.cmdlines_tables.specs.declared.language.Language.{Language}
use Rattle.base_formats.specs.Spelling.{framed_all}
use Rattle.ckeys_include_records.specs.Framing.{FitFrames, Pairs, flag, pair_parts, paths_of}
use Rattle.ckeys_include_records.specs.declared.asker.Asker.{Asker}

-- who asks, as plain values
pub record Identity : Type 0 where
  pub kind : CCompilerKind
  pub executable : Bytes
  pub plusplus : Bool
  pub version : Option Bytes
  pub compiler_digest : Bytes
  pub assembler_digest : Option Bytes
  pub dir : Bytes
  pub env : Pairs
  pub input : Bytes
  pub double_dash_input : Bool
  pub language : Language
  pub outputs : Pairs
  pub preprocessor_args : List Bytes
  pub dependency_args : List Bytes
  pub unhashed_args : List Bytes
  pub common_args : List Bytes
  pub arch_args : List Bytes
  pub extra_hash_files : List Bytes

abbrev pub identity_of : Asker → Identity
identity_of asker = record {
  kind = asker.kind;
  executable = asker.executable.now;
  plusplus = asker.plusplus;
  version = option_map (λ version. version.now) asker.version;
  compiler_digest = asker.compiler_digest.now;
  assembler_digest = option_map (λ digest. digest.now) asker.assembler_digest;
  dir = asker.dir.now;
  env = asker.env.now;
  input = asker.parsed.now.input;
  double_dash_input = asker.parsed.now.double_dash_input;
  language = asker.parsed.now.language;
  outputs = paths_of asker.parsed.now.outputs;
  preprocessor_args = asker.parsed.now.preprocessor_args;
  dependency_args = asker.parsed.now.dependency_args;
  unhashed_args = asker.parsed.now.unhashed_args;
  common_args = asker.parsed.now.common_args;
  arch_args = asker.parsed.now.arch_args;
  extra_hash_files = asker.parsed.now.extra_hash_files;
}

-- the parts that are hashed of who asks, in order
abbrev pub identity_parts : Identity → List Bytes
identity_parts i =
    kind_name i.kind
    ∷ i.executable
    ∷ flag i.plusplus
    ∷ framed_all (option_to_list i.version)
    ∷ i.compiler_digest
    ∷ framed_all (option_to_list i.assembler_digest)
    ∷ i.dir
    ∷ framed_all (pair_parts i.env)
    ∷ i.input
    ∷ flag i.double_dash_input
    ∷ name_of i.language
    ∷ framed_all (pair_parts i.outputs)
    ∷ framed_all i.preprocessor_args
    ∷ framed_all i.dependency_args
    ∷ framed_all i.unhashed_args
    ∷ framed_all i.common_args
    ∷ framed_all i.arch_args
    ∷ framed_all i.extra_hash_files
    ∷ []

abbrev pub identity_material : Identity → Bytes
identity_material i = framed_all (identity_parts i)

-- each length that is written fits eight bytes
pub record IdentityFits (i : Identity) : Type 0 where
  pub parts : FitFrames (identity_parts i)
  pub version : FitFrames (option_to_list i.version)
  pub assembler_digest : FitFrames (option_to_list i.assembler_digest)
  pub env : FitFrames (pair_parts i.env)
  pub outputs : FitFrames (pair_parts i.outputs)
  pub preprocessor_args : FitFrames i.preprocessor_args
  pub dependency_args : FitFrames i.dependency_args
  pub unhashed_args : FitFrames i.unhashed_args
  pub common_args : FitFrames i.common_args
  pub arch_args : FitFrames i.arch_args
  pub extra_hash_files : FitFrames i.extra_hash_files
