-- Stripping adds no byte.
use Rattle.std.proofs.Common.{◌≡◌, ℕ, zero, suc, ◌+◌, ◌-◌, Bool, true, false, ◌||◌, List, [], ◌∷◌, refl, ◌∙◌, take, drop}
use Rattle.std.proofs.lemmas.List.Folds.{list_any-append}
use Rattle.std.specs.List.{list_any, flat_map, slice_range}
use Rattle.base_files.specs.Bytes.{Bytes}
use Rattle.ckeys_base.specs.Stripping.{parts}
use Rattle.ckeys_base.specs.FolderPlaces.{Places, longest}
use Rattle.ckeys_base.specs.FromTheLeft.{stripped_of}

neither : (s t : Bool) → (s || t) ≡ false → (s ≡ false) × (t ≡ false)
neither true t h = cc
neither false t h = (refl, h)

both_false : {s t : Bool} → s ≡ false → t ≡ false → (s || t) ≡ false
both_false p q = λ i. p i || q i

module _ (test : ℕ → Bool) where
  none_dropped : (n : ℕ) (xs : Bytes) → list_any test xs ≡ false → list_any test (drop n xs) ≡ false
  none_dropped zero xs h = h
  none_dropped (suc n) [] h = h
  none_dropped (suc n) (x ∷ xs) h = none_dropped n xs (neither (test x) (list_any test xs) h).1

  none_taken : (n : ℕ) (xs : Bytes) → list_any test xs ≡ false → list_any test (take n xs) ≡ false
  none_taken zero xs h = refl
  none_taken (suc n) [] h = h
  none_taken (suc n) (x ∷ xs) h = let p = neither (test x) (list_any test xs) h in both_false p.0 (none_taken n xs p.1)

  none_left : (width : ℕ → ℕ) (text : Bytes) → list_any test text ≡ false → (from : ℕ) (starts : List ℕ) → list_any test (flat_map (λ part. part) (parts width text from starts)) ≡ false
  unfolding parts
  none_left width text h from [] = list_any-append test (drop from text) [] ∙ both_false (none_dropped from text h) refl
  none_left width text h from (s ∷ starts) =
      list_any-append test (slice_range text from s) (flat_map (λ part. part) (parts width text (s + width s) starts))
      ∙ both_false (none_taken (s - from) (drop from text) (none_dropped from text h)) (none_left width text h (s + width s) starts)

pub none_added : (places : Places) (folders : List Bytes) (text : Bytes) (test : ℕ → Bool) → list_any test text ≡ false → list_any test (stripped_of places folders text) ≡ false
none_added places folders text test h = none_left test (longest places folders text) text h 0 _
