-- The bytes of the parts of a call that was compiled, with what differed from the one before it.
use Rattle.std.proofs.Common.{Bool, List, Option, refl}
use Rattle.base_files.specs.Bytes.{Bytes}
use Rattle.base_formats.specs.FieldFormats.{both_format, counted_format, framed_format, made_format, optional_format}
use Rattle.base_formats.specs.Formats.{IsFormat}
use Rattle.base_formats.specs.Reading.{Read, both_at, counted_at, framed_at, made_at, optional_at}
use Rattle.base_formats.specs.Spelling.{BothFit, CountFits, FitsFrame, IfFits, both, counted, framed, optional}
use Rattle.base_formats.specs.Choices.{AnyFits, coded, coded_at, flag_code, flag_format, flag_of}
use Rattle.cmdlines_tables.specs.LanguageBytes.{language_code, language_format, language_of}
use Rattle.cmdlines_tables.specs.declared.language.Language.{Language}
use Rattle.ckeys_records.specs.Formats.{NameFits, name_at, name_bytes, name_format}
use Rattle.ckeys_records.specs.declared.output_name.OutputName.{OutputName}
use Rattle.cache_format.specs.declared.kept_parts.KeptParts.{KeptParts}

-- their fields, in order
abbrev pub LastFields : Type 0
LastFields = Option Bytes × (Bytes × (List OutputName × Bytes))

abbrev pub PartsFields : Type 0
PartsFields = Bytes × (Bool × (Language × (List Bytes × (List (Bytes × Bytes) × (List Bytes × LastFields)))))

abbrev pub parts_fields : KeptParts → PartsFields
parts_fields p = (p.compiler, (p.plusplus, (p.language, (p.words, (p.variables, (p.extra_hashes, (p.assembler, (p.text, (p.names, p.difference)))))))))

abbrev pub parts_from : PartsFields → KeptParts
parts_from f = record { compiler = f.0; plusplus = f.1.0; language = f.1.1.0; words = f.1.1.1.0; variables = f.1.1.1.1.0; extra_hashes = f.1.1.1.1.1.0; assembler = f.1.1.1.1.1.1.0; text = f.1.1.1.1.1.1.1.0; names = f.1.1.1.1.1.1.1.1.0; difference = f.1.1.1.1.1.1.1.1.1 }

-- how they are spelled
abbrev pub last_bytes : LastFields → Bytes
last_bytes f = both (optional framed) (both framed (both (counted name_bytes) framed)) f

abbrev pub fields_bytes : KeptParts → Bytes
fields_bytes p = both framed (both (coded flag_code) (both (coded language_code) (both (counted framed) (both (counted (both framed framed)) (both (counted framed) last_bytes))))) (parts_fields p)

-- each length and count fits its eight bytes
abbrev pub LastFit : LastFields → Type 0
LastFit f = BothFit (IfFits FitsFrame) (BothFit FitsFrame (BothFit (CountFits NameFits) FitsFrame)) f

abbrev pub PartsFit : KeptParts → Type 0
PartsFit p = BothFit FitsFrame (BothFit AnyFits (BothFit AnyFits (BothFit (CountFits FitsFrame) (BothFit (CountFits (BothFit FitsFrame FitsFrame)) (BothFit (CountFits FitsFrame) LastFit))))) (parts_fields p)

-- reading them
unfoldable pub fields_at : Bytes → Read KeptParts
fields_at = made_at parts_from (both_at framed_at (both_at (coded_at flag_of) (both_at (coded_at language_of) (both_at (counted_at framed_at) (both_at (counted_at (both_at framed_at framed_at)) (both_at (counted_at framed_at) (both_at (optional_at framed_at) (both_at framed_at (both_at (counted_at name_at) framed_at)))))))))

pub fields_format : IsFormat fields_at fields_bytes PartsFit
unfolding fields_at
fields_format =
    let last = both_format _ _ _ _ _ _ (optional_format _ _ _ framed_format) (both_format _ _ _ _ _ _ framed_format (both_format _ _ _ _ _ _ (counted_format _ _ _ name_format) framed_format)) in
    let lists = both_format _ _ _ _ _ _ (counted_format _ _ _ framed_format) (both_format _ _ _ _ _ _ (counted_format _ _ _ (both_format _ _ _ _ _ _ framed_format framed_format)) (both_format _ _ _ _ _ _ (counted_format _ _ _ framed_format) last)) in
    let fields = both_format _ _ _ _ _ _ framed_format (both_format _ _ _ _ _ _ flag_format (both_format _ _ _ _ _ _ language_format lists)) in
    made_format parts_from parts_fields _ _ _ (λ x. refl) (λ y. refl) fields
