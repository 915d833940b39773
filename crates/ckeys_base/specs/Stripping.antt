-- What goes from a text of n bytes, where `width i` is how much goes at place i, or 0.
use Rattle.std.specs.Prelude.{◌≡◌, ℕ, ◌+◌, ◌<◌, ◌≤◌, ◌⊎◌, Bool, false, true, List, [], ◌∷◌, drop, filter, slice_range}
use Rattle.std.specs.List.{AllByRecursion, flat_map}
use Rattle.base_files.specs.Bytes.{Bytes}

-- each interval begins no earlier than `from`, and where the one before it ends or later
abbrev pub AreApart : (ℕ → ℕ) → ℕ → List ℕ → Type 0
AreApart width from [] = Unit {0}
AreApart width from (s ∷ ss) = (from ≤ s) × AreApart width (s + width s) ss

-- the place lies in one of them
abbrev pub IsInside : (ℕ → ℕ) → List ℕ → ℕ → Type 0
IsInside width [] i = ⊥
IsInside width (s ∷ ss) i = ((s ≤ i) × (i < s + width s)) ⊎ IsInside width ss i

-- these intervals, by their starts, are what goes from place `from` on: they are where something counts, they are apart, and each place where something counts lies in one of them
pub record IsStripping (width : ℕ → ℕ) (from n : ℕ) (starts : List ℕ) : Type 0 where
  pub counting : AllByRecursion (λ s. (0 < width s) × (s + width s ≤ n)) starts
  pub apart : AreApart width from starts
  pub covering : (i : ℕ) → from ≤ i → i < n → 0 < width i → IsInside width starts i

-- there is such a list, and no other
abbrev pub HasExactlyOne : (List ℕ → Type 0) → Type 0
HasExactlyOne P = (starts : List ℕ) × P starts × ((others : List ℕ) → P others → others ≡ starts)

-- the parts of a text between such intervals, from a place on
unfoldable pub parts : (ℕ → ℕ) → Bytes → ℕ → List ℕ → List Bytes
parts width text from [] = drop from text ∷ []
parts width text from (s ∷ ss) = slice_range text from s ∷ parts width text (s + width s) ss

-- there is a byte in it
abbrev pub is_filled : Bytes → Bool
is_filled [] = false
is_filled (byte ∷ bytes) = true

-- those of the parts in which there is a byte
abbrev pub filled : List Bytes → List Bytes
filled parts = filter is_filled parts

-- the bytes that stay where these intervals go
abbrev pub left_by : (ℕ → ℕ) → Bytes → List ℕ → Bytes
left_by width text starts = flat_map (λ part. part) (parts width text 0 starts)
