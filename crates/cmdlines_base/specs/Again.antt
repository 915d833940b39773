-- How written words are read again.
use Rattle.std.specs.Prelude.{◌≡◌, Bool, true, false, not, ◌&&◌, ◌||◌, ◌==◌, List, [], ◌∷◌, ◌++◌, length, map, Option, None, Some, is_some, codes, Contains}
use Rattle.std.specs.List.{list_all, AllByRecursion}
use Rattle.base_files.specs.Bytes.{Bytes}
use Rattle.cmdlines_base.specs.Table.{Entry, after, longest_fit}
use Rattle.cmdlines_base.specs.Printing.{is_j, is_empty_j, printed, normal, words_of}
use Rattle.cmdlines_base.specs.Reading.{Item, is_after, reading, before, all_before}

-- Flags are of one entry each, and no flag extends one of two bytes whose value may be joined or separate.
pub record IsClear {K : Type 0} (table : List (Entry K)) : Type 0 where
  pub one : (d e : Entry K) → Contains table d → Contains table e → d.flag ≡ e.flag → d ≡ e
  pub alone : (d e : Entry K) (more : Bytes) → Contains table d → Contains table e → is_j e ≡ true → length e.flag ≡ 2 → d.flag ≡ e.flag ++ more → more ≡ []

-- Whatever follows, the item's words are read as an item that is normally written alike.
pub record ReadsAgain {K : Type 0} (dashes : Bool) (table : List (Entry K)) (a : Item K) : Type 0 where
  pub item : Item K
  pub reads : (rest : List (Bytes)) → reading dashes table (printed (normal a) ++ rest) ≡ before item (reading dashes table rest)
  pub alike : normal item ≡ normal a

-- Written one after another, whatever follows, the items are read as items that are normally written alike.
pub record ReadsTogether {K : Type 0} (dashes : Bool) (table : List (Entry K)) (items : List (Item K)) (rest : List Bytes) : Type 0 where
  pub found : List (Item K)
  pub reads : reading dashes table (words_of items ++ rest) ≡ all_before found (reading dashes table rest)
  pub alike : map normal found ≡ map normal items

-- each of the items reads again
abbrev pub AllReadAgain : {K : Type 0} → Bool → List (Entry K) → List (Item K) → Type 0
AllReadAgain dashes table items = AllByRecursion (ReadsAgain dashes table) items

-- each does that comes before double dashes which end the options, and isn't an empty value which may be joined or separate
abbrev pub AllReadAgainUnlessEmpty : {K : Type 0} → Bool → List (Entry K) → List (Item K) → Type 0
AllReadAgainUnlessEmpty dashes table items = AllByRecursion (λ a. ((is_after a && dashes) || is_empty_j table a) ≡ false → ReadsAgain dashes table a) items

-- no entry has the other's flag, and none extends one of two bytes whose value may be joined or separate
abbrev pub free_by : Bool → Option (Bytes) → Bool
free_by j None = true
free_by j (Some []) = false
free_by j (Some (b ∷ bs)) = not j

abbrev pub is_free : {K : Type 0} → Entry K → Entry K → Bool
is_free e d = free_by (is_j e && (length e.flag == 2)) (after e.flag d.flag)

-- nothing fits double dashes, where these end the options
abbrev pub lets_dashes : {K : Type 0} → Bool → List (Entry K) → Bool
lets_dashes dashes table = not (dashes && is_some (longest_fit table (codes "--")))

abbrev pub is_clear : {K : Type 0} → List (Entry K) → Bool
is_clear [] = true
is_clear (e ∷ es) = list_all (λ d. is_free e d && is_free d e) es && is_clear es
