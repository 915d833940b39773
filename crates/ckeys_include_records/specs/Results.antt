-- One more result.
use Rattle.std.specs.Prelude.{◌≡◌, ◌⊎◌, ℕ, Bool, nat_lt, ◌+◌, ◌||◌, List, [], ◌∷◌, length, if◌then◌else◌}
use Rattle.std.specs.List.{Contains, prefix_len}
use Rattle.std.specs.Str.{bytes_eq}
use Rattle.base_files.specs.Bytes.{Bytes}
use Rattle.ckeys_include_records.specs.Records.{includes_in, is_before}
use Rattle.ckeys_include_records.specs.declared.entry.CachedResult.{CachedResult}
use Rattle.ckeys_include_records.specs.declared.entry.IncludeEntry.{IncludeEntry}

-- there are more than 100 results, or all includes with the new ones exceed 10000
abbrev pub starts_over : List CachedResult → List IncludeEntry → Bool
starts_over results includes = nat_lt 100 (length results) || nat_lt 10000 (includes_in results + length includes)

-- how many results at the start have keys before this one
abbrev pub place_for : List CachedResult → Bytes → ℕ
place_for results text_key = prefix_len (λ r. is_before r.key text_key) results

-- a result in its place by its key, over the one that had that key
unfoldable pub put_in : CachedResult → List CachedResult → List CachedResult
put_in r [] = r ∷ []
put_in r (q ∷ results) =
    if is_before q.key r.key then q ∷ put_in r results
    else (if bytes_eq q.key r.key then r ∷ results else r ∷ q ∷ results)

-- the results with one more
abbrev pub with_result : List CachedResult → CachedResult → List CachedResult
with_result results r = if starts_over results r.includes then r ∷ [] else put_in r results

-- the new one is among the results, and each other one was there
pub record HasMore (old : List CachedResult) (r : CachedResult) (new : List CachedResult) : Type 0 where
  pub others : (q : CachedResult) → Contains new q → Contains old q ⊎ (q ≡ r)
  pub among : Contains new r
