-- The bytes in which the cache keeps the names of outputs and what the hashed bytes don't determine.
use Rattle.std.proofs.Common.{ℕ, Bool, List, Option, refl}
use Rattle.base_files.specs.Bytes.{Bytes}
use Rattle.base_formats.specs.Choices.{AnyFits, coded, coded_at, flag_code, flag_format, flag_of}
use Rattle.base_formats.specs.FieldFormats.{both_format, counted_format, framed_format, made_format, number_format, optional_format}
use Rattle.base_formats.specs.Formats.{IsFormat}
use Rattle.base_formats.specs.Reading.{Read, both_at, counted_at, framed_at, made_at, number_at, optional_at}
use Rattle.base_formats.specs.Spelling.{BothFit, CountFits, FitsFrame, FitsNumber, IfFits, both, counted, framed, number, optional}
use Rattle.cmdlines_tables.specs.LanguageBytes.{language_code, language_format, language_of}
use Rattle.cmdlines_tables.specs.declared.language.Language.{Language}
use Rattle.ckeys_records.specs.declared.output_name.OutputName.{OutputName}
use Rattle.ckeys_records.specs.declared.shape.CShape.{CShape}

-- their fields, in order
abbrev pub name_fields : OutputName → Bytes × Bool
name_fields n = (n.name, n.optional)

abbrev pub name_from : Bytes × Bool → OutputName
name_from f = record { name = f.0; optional = f.1 }

abbrev pub ShapeFields : Type 0
ShapeFields = Language × (ℕ × (ℕ × (List ℕ × (Option ℕ × ℕ))))

abbrev pub shape_fields : CShape → ShapeFields
shape_fields s = (s.language, (s.compiler_digest, (s.words, (s.extra_hashes, (s.assembler_digest, s.variables)))))

abbrev pub shape_from : ShapeFields → CShape
shape_from f = record { language = f.0; compiler_digest = f.1.0; words = f.1.1.0; extra_hashes = f.1.1.1.0; assembler_digest = f.1.1.1.1.0; variables = f.1.1.1.1.1 }

-- how they are spelled
abbrev pub name_bytes : OutputName → Bytes
name_bytes n = both framed (coded flag_code) (name_fields n)

abbrev pub shape_bytes : CShape → Bytes
shape_bytes s = both (coded language_code) (both number (both number (both (counted number) (both (optional number) number)))) (shape_fields s)

-- each length, count and number fits its eight bytes
abbrev pub NameFits : OutputName → Type 0
NameFits n = BothFit FitsFrame AnyFits (name_fields n)

abbrev pub ShapeFits : CShape → Type 0
ShapeFits s = BothFit AnyFits (BothFit FitsNumber (BothFit FitsNumber (BothFit (CountFits FitsNumber) (BothFit (IfFits FitsNumber) FitsNumber)))) (shape_fields s)

-- reading them
unfoldable pub name_at : Bytes → Read OutputName
name_at = made_at name_from (both_at framed_at (coded_at flag_of))

unfoldable pub shape_at : Bytes → Read CShape
shape_at = made_at shape_from (both_at (coded_at language_of) (both_at number_at (both_at number_at (both_at (counted_at number_at) (both_at (optional_at number_at) number_at)))))

pub name_format : IsFormat name_at name_bytes NameFits
unfolding name_at
name_format = made_format name_from name_fields _ _ _ (λ x. refl) (λ y. refl) (both_format _ _ _ _ _ _ framed_format flag_format)

pub shape_format : IsFormat shape_at shape_bytes ShapeFits
unfolding shape_at
shape_format =
    let last = both_format _ _ _ _ _ _ (counted_format _ _ _ number_format) (both_format _ _ _ _ _ _ (optional_format _ _ _ number_format) number_format) in
    let fields = both_format _ _ _ _ _ _ language_format (both_format _ _ _ _ _ _ number_format (both_format _ _ _ _ _ _ number_format last)) in
    made_format shape_from shape_fields _ _ _ (λ x. refl) (λ y. refl) fields
