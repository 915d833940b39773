-- The bytes that are hashed of a record, and what these don't determine.
use Rattle.std.specs.Prelude.{Bool, true, false, ℕ, List, [], ◌∷◌, ◌++◌, length, map, unwrap_or, codes}
use Rattle.std.specs.Int.{w64, to_le_bytes}
use Rattle.std.specs.List.{flat_map}
use Rattle.std.specs.Option.{option_map}
use Rattle.base_files.specs.Bytes.{Bytes}
use Rattle.cmdlines_tables.specs.Languages.{name_of}
use Rattle.ckeys_records.specs.Records.{Variable, HashedParts}
use Rattle.ckeys_records.specs.declared.shape.CShape.{CShape}

-- the version of this layout
abbrev pub cache_version : Bytes
cache_version = codes "11"

-- a length in 8 bytes, low byte first, and then the bytes
abbrev pub framed : Bytes → Bytes
framed bytes = to_le_bytes w64 (length bytes) ++ bytes

-- 61 is '='
abbrev pub variable_bytes : Variable → Bytes
variable_bytes v = framed v.0 ++ (61 ∷ framed v.1)

abbrev pub word_bytes : Bytes → Bytes
word_bytes word = word ++ (255 ∷ [])

abbrev pub words_bytes : List Bytes → Bytes
words_bytes words = flat_map word_bytes words

abbrev pub joined : List Bytes → Bytes
joined parts = flat_map (λ part. part) parts

abbrev pub variables_bytes : List Variable → Bytes
variables_bytes variables = flat_map variable_bytes variables

abbrev pub plusplus_byte : Bool → ℕ
plusplus_byte true = 1
plusplus_byte false = 0

-- The compiler's digest, a byte for C++, the version, the language's name, each word with the byte 255 after it, the digests of extra files, that of the assembler, each variable with its lengths, and the text.
abbrev pub material_of : HashedParts → Bytes
material_of r =
    r.compiler_digest
    ++ (plusplus_byte r.plusplus ∷ [])
    ++ cache_version
    ++ name_of r.language
    ++ words_bytes r.words
    ++ joined r.extra_hashes
    ++ unwrap_or r.assembler_digest []
    ++ variables_bytes r.variables
    ++ r.text

-- the language, the lengths of digests, and how many words and variables there are; never the text's length
abbrev pub shape_of : HashedParts → CShape
shape_of r = record {
  language = r.language;
  compiler_digest = length r.compiler_digest;
  words = length r.words;
  extra_hashes = map length r.extra_hashes;
  assembler_digest = option_map length r.assembler_digest;
  variables = length r.variables;
}
