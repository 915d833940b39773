-- The bytes of a record.
use Rattle.std.specs.Prelude.{◌≡◌, ℕ, ℤ, ◌==◌, ◌&&◌, true, List, ◌∷◌, length, Option, None, Some, if◌then◌else◌}
use Rattle.base_files.specs.Bytes.{Bytes}
use Rattle.base_formats.specs.Spelling.{number, signed, framed, both, optional, counted, FitsNumber, FitsWord, FitsFrame, IsText, BothFit, IfFits, CountFits}
use Rattle.base_formats.specs.Reading.{Read, ◌>>=◌, number_at, signed_at, framed_at, text_at, both_at, optional_at, counted_at, made_at}
use Rattle.ckeys_include_records.specs.Records.{is_record}
use Rattle.ckeys_include_records.specs.declared.entry.CachedResult.{CachedResult}
use Rattle.ckeys_include_records.specs.declared.entry.IncludeEntry.{IncludeEntry}

-- the fields of an include: path, size, digest, day and second
abbrev pub IncludeFields : Type 0
IncludeFields = Bytes × (ℕ × (Bytes × (Option ℤ × Option ℤ)))

abbrev pub include_fields : IncludeEntry → IncludeFields
include_fields i = (i.path, (i.size, (i.digest, (i.day, i.second))))

abbrev pub include_from : IncludeFields → IncludeEntry
include_from f = record { path = f.0; size = f.1.0; digest = f.1.1.0; day = f.1.1.1.0; second = f.1.1.1.1 }

-- the fields of a result: its key and its includes
abbrev pub ResultFields : Type 0
ResultFields = Bytes × List IncludeEntry

abbrev pub result_fields : CachedResult → ResultFields
result_fields r = (r.key, r.includes)

abbrev pub result_from : ResultFields → CachedResult
result_from f = record { key = f.0; includes = f.1 }

-- how they are spelled
abbrev pub include_bytes : IncludeEntry → Bytes
include_bytes i = both framed (both number (both framed (both (optional signed) (optional signed)))) (include_fields i)

abbrev pub result_bytes : CachedResult → Bytes
result_bytes r = both framed (counted include_bytes) (result_fields r)

-- the byte 1, and the results after their count
abbrev pub record_bytes : List CachedResult → Bytes
record_bytes results = 1 ∷ counted result_bytes results

-- which ones can be spelled: keys and digests are UTF-8, and each length and number fits its eight bytes
abbrev pub IncludeFits : IncludeEntry → Type 0
IncludeFits i = BothFit FitsFrame (BothFit FitsNumber (BothFit IsText (BothFit (IfFits FitsWord) (IfFits FitsWord)))) (include_fields i)

abbrev pub ResultFits : CachedResult → Type 0
ResultFits r = BothFit IsText (CountFits IncludeFits) (result_fields r)

-- a record that can be spelled
pub record IsRecord (results : List CachedResult) : Type 0 where
  pub fits : CountFits ResultFits results
  pub kept : is_record results ≡ true

-- reading them
unfoldable pub include_at : Bytes → Read IncludeEntry
include_at = made_at include_from (both_at framed_at (both_at number_at (both_at text_at (both_at (optional_at signed_at) (optional_at signed_at)))))

unfoldable pub result_at : Bytes → Read CachedResult
result_at = made_at result_from (both_at text_at (counted_at include_at))

-- what comes after the first byte
unfoldable pub results_at : Bytes → Option (List CachedResult)
results_at bytes = do
  results ← counted_at result_at bytes
  if length results.1 == 0 && is_record results.0 then Some results.0 else None
