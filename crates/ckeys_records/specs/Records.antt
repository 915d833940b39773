-- What a key of a C request represents, and the parts that are hashed for it.
use Rattle.std.specs.Prelude.{◌≡◌, ◌<◌, ◌^◌, Bool, false, ◌==◌, List, map, length, Option}
use Rattle.std.specs.List.{AllByRecursion, list_any}
use Rattle.base_files.specs.Bytes.{Bytes}
use Rattle.ckeys_base.specs.Hex.{hex_of}
use Rattle.cmdlines_tables.specs.declared.language.Language.{Language}

-- a variable's name and value
abbrev pub Variable : Type 0
Variable = Bytes × Bytes

-- The record: the compiler's digest, whether it compiles C++, the language, the hashed words without folders, the variables that count, the contents of extra files, the digest of the assembler or none, and the text without folders.
pub record CRecord : Type 0 where
  pub compiler_digest : Bytes
  pub plusplus : Bool
  pub language : Language
  pub words : List Bytes
  pub variables : List Variable
  pub extra_contents : List Bytes
  pub assembler_digest : Option Bytes
  pub text : Bytes

-- The parts that are hashed: as the record, with digests of the extra files.
pub record HashedParts : Type 0 where
  pub compiler_digest : Bytes
  pub plusplus : Bool
  pub language : Language
  pub words : List Bytes
  pub variables : List Variable
  pub extra_hashes : List Bytes
  pub assembler_digest : Option Bytes
  pub text : Bytes

-- the parts of a record, under a digest
abbrev pub parts_of : (Bytes → Bytes) → CRecord → HashedParts
parts_of digest_of r = record {
  compiler_digest = r.compiler_digest;
  plusplus = r.plusplus;
  language = r.language;
  words = r.words;
  variables = r.variables;
  extra_hashes = map (λ contents. hex_of (digest_of contents)) r.extra_contents;
  assembler_digest = r.assembler_digest;
  text = r.text;
}

-- the byte 255, which ends a word, is in it
abbrev pub holds_end : Bytes → Bool
holds_end word = list_any (λ b. b == 255) word

-- it is in one of these words
abbrev pub hold_end : List Bytes → Bool
hold_end words = list_any holds_end words

abbrev pub LacksEnd : Bytes → Type 0
LacksEnd word = holds_end word ≡ false

-- lengths that are hashed fit 64 bits
abbrev pub FitsLength : Variable → Type 0
FitsLength v = (length v.0 < 2 ^ 64) × (length v.1 < 2 ^ 64)

-- words lack that byte, and variables have lengths that can be written
pub record AreTold (ws : List Bytes) (vs : List Variable) : Type 0 where
  pub words : AllByRecursion LacksEnd ws
  pub variables : AllByRecursion FitsLength vs
