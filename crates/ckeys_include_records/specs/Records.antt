-- Include records: the results that are kept for one entry key, each with the files that its text named.
use Rattle.std.specs.Prelude.{ℕ, Bool, true, nat_le, ◌&&◌, ◌||◌, List, [], ◌∷◌, length, sum_by}
use Rattle.std.specs.Ordering.{nat_cmp, is_lt}
use Rattle.std.specs.Cmp.Lexicographic.{slice_cmp}
use Rattle.base_files.specs.Bytes.{Bytes}
use Rattle.ckeys_include_records.specs.declared.entry.CachedResult.{CachedResult}
use Rattle.ckeys_include_records.specs.declared.entry.IncludeEntry.{IncludeEntry}

-- what a record holds
pub record Record : Type 0 where
  pub results : List CachedResult

abbrev pub record_of : List CachedResult → Record
record_of results = record { results = results }

-- a result with this key and include list
abbrev pub result_with : Bytes → List IncludeEntry → CachedResult
result_with text_key includes = record { key = text_key; includes = includes }

-- how many includes the results have together
abbrev pub includes_in : List CachedResult → ℕ
includes_in results = sum_by (λ r. length r.includes) results

-- one key comes before another, by its bytes
abbrev pub is_before : Bytes → Bytes → Bool
is_before one other = is_lt (slice_cmp nat_cmp one other)

-- each key comes before the next one
unfoldable pub rises : List CachedResult → Bool
rises [] = true
rises (r ∷ []) = true
rises (r ∷ q ∷ results) = is_before r.key q.key && rises (q ∷ results)

-- at most 101 results, and at most 10000 includes unless there is only one result
abbrev pub is_small : List CachedResult → Bool
is_small results = nat_le (length results) 101 && (nat_le (length results) 1 || nat_le (includes_in results) 10000)

-- what a record may hold
abbrev pub is_record : List CachedResult → Bool
is_record results = is_small results && rises results
