-- What is known of a compiler.
use Rattle.std.specs.Prelude.{Bool, ℕ, List, Option, String, string_bytes}
use Rattle.std.specs.Borrow.{Bor}
use Rattle.std.specs.Option.{option_map}
use Rattle.std.specs.declared.alloc.Global.{Global}
use Rattle.base_files.specs.Bytes.{Bytes}
use Rattle.cmdlines_tables.specs.declared.compiler.CCompilerKind.{CCompilerKind}

-- beside its kind: whether it compiles C++ by itself, its version, and the digest of its assembler
pub record Traits : Type 0 where
  pub plusplus : Bool
  pub version : Option Bytes
  pub assembler_digest : Option Bytes

abbrev pub traits_of : Bool → Option (String Global) → Option (String Global) → Traits
traits_of plusplus version assembler_digest = record { plusplus = plusplus; version = option_map string_bytes version; assembler_digest = option_map string_bytes assembler_digest }

-- a compiler of any kind as it is found
pub record Found : Type 0 where
  pub kind : CCompilerKind
  pub traits : Traits

abbrev pub kind_in : Found → CCompilerKind
kind_in found = found.kind

abbrev pub traits_in : Found → Traits
traits_in found = found.traits

-- a text that is lent
abbrev pub text_in : Bor (List ℕ) → Bytes
text_in text = text.now
