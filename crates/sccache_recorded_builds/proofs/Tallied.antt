-- What a tally's entries say of the numbers at which a name was noted.
use Rattle.std.proofs.Common.{◌≡◌, refl, ℕ, ◌≢◌, List, [], Option, None, Some, Vec, ap, sym, ◌∙◌, map, All, Contains, string_bytes}
use Rattle.std.specs.BTreeMap.{IsOrdered, get, get_by_text}
use Rattle.std.specs.Cmp.Lexicographic.{bytes_decides}
use Rattle.std.specs.List.Sorted.{IsPermutation}
use Rattle.std.specs.Option.{option_map_or}
use Rattle.std.specs.Ordering.{eq_by_cmp}
use Rattle.std.specs.String.{string_cmp, string_cmp_total}
use Rattle.std.specs.declared.alloc.Global.{Global}
use Rattle.std.proofs.lemmas.List.Elements.{All-weaker}
use Rattle.std.proofs.lemmas.Cmp.{eq_by_cmp_equiv}
use Rattle.std.proofs.lemmas.List.Sorted.{All-permutation, Contains-permutation, IsPermutation-map}
use Rattle.std.proofs.lemmas.Map.Entries.{place_from_lookup}
use Rattle.std.proofs.lemmas.Map.Keys.{IsDistinct-IsPermutation, IsDistinct-from_sorted}
use Rattle.std.proofs.lemmas.Map.Text.{is_eq-slice_cmp, text_cmp}
use Rattle.std.proofs.lemmas.Map.Views.{All-found}
use Rattle.std.proofs.lemmas.Option.{slice_get_within, get_or_from_slice_get}
use Rattle.std.specs.BTreeMap.{is_at}
use Rattle.sccache_recorded_builds.specs.Tallies.{HasRow, HaveNamesApart, Row, numbers_in}
use Rattle.sccache_recorded_builds.specs.declared.tally.Tally.{Tally}

module _ (tally : Tally) where
  abbrev IsTold : Row → Type 0
  IsTold row = row.1.items ≡ numbers_in tally (string_bytes row.0)

  abbrev IsFound : Row → Type 0
  IsFound row = get string_cmp tally.names row.0 ≡ Some row.1

  -- each entry has the numbers of its name
  told : IsOrdered string_cmp tally.names → All IsTold tally.names.entries
  told ordered =
      All-weaker IsFound IsTold
      (λ row found.
      sym (ap (λ (o : Option (Vec ℕ Global)). option_map_or (λ numbers. numbers.items) o []) found))
      tally.names.entries (All-found string_cmp_total tally.names ordered)

  -- and so has each in another order
  pub rows_told :
      IsOrdered string_cmp tally.names → (rows : List Row) → IsPermutation tally.names.entries rows
      → All IsTold rows
  rows_told ordered rows moved = All-permutation IsTold tally.names.entries rows moved (told ordered)

  -- no two entries have one name, in whatever order
  pub names_apart :
      IsOrdered string_cmp tally.names → (rows : List Row) → IsPermutation tally.names.entries rows
      → HaveNamesApart rows
  names_apart ordered rows moved =
      let name = λ (row : Row). row.0 in
      let entries = tally.names.entries in
      IsDistinct-IsPermutation (eq_by_cmp string_cmp) (eq_by_cmp_equiv string_cmp_total).symm
      (map name entries) (map name rows) (IsPermutation-map name entries rows moved)
      (IsDistinct-from_sorted string_cmp (map name entries) ordered)

  found_in : (o : Option (Vec ℕ Global)) → option_map_or (λ numbers. numbers.items) o [] ≢ []
      → (numbers : Vec ℕ Global) × (o ≡ Some numbers)
  found_in None some = absurd (some refl)
  found_in (Some numbers) some = (numbers, refl)

  -- a name that was noted has a row
  pub row_found : (rows : List Row) → IsPermutation tally.names.entries rows → (name : List ℕ)
      → numbers_in tally name ≢ [] → HasRow rows name
  row_found rows moved name some =
      let entries = tally.names.entries in
      let found = found_in (get_by_text tally.names name) some in
      let place = place_from_lookup (is_at (text_cmp name)) entries found.0 found.1 in
      let row : Row = (place.1, found.0) in
      let here : Contains entries row = (
        place.0,
        slice_get_within entries place.0 row place.2,
        get_or_from_slice_get entries place.0 row row place.2,
      ) in (
        row,
        Contains-permutation entries rows row moved here,
        sym ((bytes_decides name (string_bytes place.1)).0
            (sym (is_eq-slice_cmp name (string_bytes place.1)) ∙ place.3)),
      )
