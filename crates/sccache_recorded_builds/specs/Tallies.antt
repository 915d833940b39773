-- Which names were noted, and at which numbers.
use Rattle.std.specs.Prelude.{◌≡◌, ◌≢◌, ℕ, Bool, List, [], length, map, String, Vec, All, Contains, string_bytes}
use Rattle.std.specs.BTreeMap.{get_by_text}
use Rattle.std.specs.List.{IsDistinct}
use Rattle.std.specs.List.Sorted.{IsSortedBy}
use Rattle.std.specs.Option.{option_map_or}
use Rattle.std.specs.Ordering.{eq_by_cmp, is_lt, nat_cmp}
use Rattle.std.specs.String.{string_cmp}
use Rattle.std.specs.declared.alloc.Global.{Global}
use Rattle.sccache_recorded_builds.specs.declared.tally.Tally.{Tally}

-- the numbers at which a name was noted
abbrev pub numbers_in : Tally → List ℕ → List ℕ
numbers_in tally name = option_map_or (λ numbers. numbers.items) (get_by_text tally.names name) []

abbrev pub Row : Type 0
Row = String Global × Vec ℕ Global

-- whether a row comes before another one
abbrev pub has_more : Row → Row → Bool
has_more one other = is_lt (nat_cmp (length other.1.items) (length one.1.items))

-- a row has that name
abbrev pub HasRow : List Row → List ℕ → Type 0
HasRow rows name = (row : Row) × Contains rows row × (string_bytes row.0 ≡ name)

-- no two rows have one name
abbrev pub HaveNamesApart : List Row → Type 0
HaveNamesApart rows = IsDistinct (eq_by_cmp string_cmp) (map (λ row. row.0) rows)

-- A tally's rows: each with the numbers at which its name was noted, with one row for each name that
-- was, and the names that were noted most first.
pub record AreRowsOf (tally : Tally) (rows : List Row) : Type 0 where
  pub numbers : All (λ row. row.1.items ≡ numbers_in tally (string_bytes row.0)) rows
  pub complete : (name : List ℕ) → numbers_in tally name ≢ [] → HasRow rows name
  pub apart : HaveNamesApart rows
  pub order : IsSortedBy has_more rows
