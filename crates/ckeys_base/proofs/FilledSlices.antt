-- The slices in which there is a byte.
use Rattle.std.proofs.Common.{◌≡◌, ℕ, ◌-◌, ◌<◌, ◌≤◌, List, [], ◌∷◌, ◌++◌, length, drop, refl, ap, arith}
use Rattle.std.proofs.lemmas.List.{length-drop, length-take-le}
use Rattle.std.specs.Prelude.{slice_range}
use Rattle.std.specs.List.{AllByRecursion, flat_map}
use Rattle.base_files.specs.Bytes.{Bytes}
use Rattle.ckeys_base.specs.Stripping.{filled}

-- the empty ones add nothing
pub joined-filled : (slices : List Bytes) → flat_map (λ slice. slice) (filled slices) ≡ flat_map (λ slice. slice) slices
joined-filled [] = refl
joined-filled ([] ∷ slices) = joined-filled slices
joined-filled ((byte ∷ bytes) ∷ slices) = ap (λ (l : Bytes). (byte ∷ bytes) ++ l) (joined-filled slices)

pub all_filled : (slices : List Bytes) → AllByRecursion (λ slice. 0 < length slice) (filled slices)
all_filled [] = tt
all_filled ([] ∷ slices) = all_filled slices
all_filled ((byte ∷ bytes) ∷ slices) = (omega arith, all_filled slices)

filled-here : (slice : Bytes) (slices : List Bytes) → 0 < length slice → filled (slice ∷ slices) ≡ slice ∷ filled slices
filled-here [] slices h = absurd (omega (arith, h))
filled-here (byte ∷ bytes) slices h = refl

filled-past : (slice : Bytes) (slices : List Bytes) → length slice ≡ 0 → filled (slice ∷ slices) ≡ filled slices
filled-past [] slices h = refl
filled-past (byte ∷ bytes) slices h = absurd (omega (arith, h))

length-range : (text : Bytes) (from end : ℕ) → end ≤ length text → length (slice_range text from end) ≡ end - from
length-range text from end h = length-take-le (end - from) (drop from text) (omega (arith, length-drop from text))

-- a slice between two places comes, unless they are the same
pub filled-range : (text : Bytes) (from end : ℕ) (slices : List Bytes) → from < end → end ≤ length text → filled (slice_range text from end ∷ slices) ≡ slice_range text from end ∷ filled slices
filled-range text from end slices lt le = filled-here (slice_range text from end) slices (omega (arith, length-range text from end le))

pub filled-none : (text : Bytes) (from end : ℕ) (slices : List Bytes) → end ≤ from → end ≤ length text → filled (slice_range text from end ∷ slices) ≡ filled slices
filled-none text from end slices lt le = filled-past (slice_range text from end) slices (omega (arith, length-range text from end le))
