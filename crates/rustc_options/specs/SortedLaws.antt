-- A list has one order: whatever permutation of it is sorted is the sorted list.
use Rattle.std.proofs.Common.{◌≡◌, ℕ, zero, suc, ◌+◌, Bool, true, false, List, [], ◌∷◌, refl, ap, sym, ◌∙◌, arith, length, add-one}
use Rattle.std.specs.Prelude.{IsPermutation, cond, if◌then◌else◌}
use Rattle.std.specs.Cmp.{IsTotalOrder, tied_itself}
use Rattle.std.specs.List.{sum_by}
use Rattle.std.specs.List.Sorted.{IsSorted}
use Rattle.std.specs.Ordering.{is_lt, is_eq, ordering_reverse}
use Rattle.std.specs.declared.cmp.Ordering.{Ordering}
use Rattle.std.specs.declared.cmp.Ordering.TheVariants.{Less, Equal, Greater}
use Rattle.std.proofs.lemmas.List.MinMax.{ranks_by}
use Rattle.std.proofs.lemmas.List.Sorted.{sum_by-IsPermutation}
use Rattle.std.proofs.lemmas.List.Sums.{sum_by-cons}
use Rattle.rustc_options.specs.Sorted.{placed_by, sorted_by}

module _ {X : Type 0} (cmp : X → X → Ordering) where
  -- none of these is less than the item
  abbrev AllAbove : X → List X → Type 0
  AllAbove x [] = Unit {0}
  AllAbove x (y ∷ ys) = (is_lt (cmp y x) ≡ false) × AllAbove x ys

  abbrev Rises : List X → Type 0
  Rises [] = Unit {0}
  Rises (x ∷ xs) = AllAbove x xs × Rises xs

  -- 1 where the two tie
  abbrev tie : X → X → ℕ
  tie x y = cond (is_eq (cmp x y)) 1 0

  module _ (total : IsTotalOrder cmp) where
    above-weaker : (x y : X) → is_lt (cmp y x) ≡ false → (zs : List X) → AllAbove y zs → AllAbove x zs
    above-weaker x y h [] a = tt
    above-weaker x y h (z ∷ zs) a = ((ranks_by total (λ w. w)).chain z y x a.0 h, above-weaker x y h zs a.1)

    above-placed : (x z : X) → is_lt (cmp x z) ≡ false → (ys : List X) → AllAbove z ys → AllAbove z (placed_by cmp x ys)
    above-placed x z h [] a = (h, tt)
    above-placed x z h (y ∷ ys) a = by (is_lt (cmp y x)) (above-placed x z h ys a.1)
      where
        by : (b : Bool) → AllAbove z (placed_by cmp x ys) → AllAbove z (if b then y ∷ placed_by cmp x ys else x ∷ y ∷ ys)
        by true more = (a.0, more)
        by false more = (h, a)

    rises-placed : (x : X) (ys : List X) → Rises ys → Rises (placed_by cmp x ys)
    rises-placed x [] r = (tt, tt)
    rises-placed x (y ∷ ys) r = by (is_lt (cmp y x)) refl (rises-placed x ys r.1)
      where
        by : (b : Bool) → is_lt (cmp y x) ≡ b → Rises (placed_by cmp x ys) → Rises (if b then y ∷ placed_by cmp x ys else x ∷ y ∷ ys)
        by true h more = (above-placed x y ((ranks_by total (λ w. w)).one_way y x h) ys r.0, more)
        by false h more = ((h, above-weaker x y h ys r.0), r)

    rises-sorted : (xs : List X) → Rises (sorted_by cmp xs)
    rises-sorted [] = tt
    rises-sorted (x ∷ xs) = rises-placed x (sorted_by cmp xs) (rises-sorted xs)

  -- sums don't mind the order
  module _ (f : X → ℕ) where
    sum-placed : (x : X) (ys : List X) → sum_by f (placed_by cmp x ys) ≡ sum_by f (x ∷ ys)
    sum-placed x [] = refl
    sum-placed x (y ∷ ys) = by (is_lt (cmp y x)) (sum-placed x ys)
      where
        by : (b : Bool) → sum_by f (placed_by cmp x ys) ≡ sum_by f (x ∷ ys) → sum_by f (if b then y ∷ placed_by cmp x ys else x ∷ y ∷ ys) ≡ sum_by f (x ∷ y ∷ ys)
        by true more =
            let one = sum_by-cons f y (placed_by cmp x ys) in
            let two = sum_by-cons f x (y ∷ ys) in
            let three = sum_by-cons f y ys in
            let four = sum_by-cons f x ys in
            omega arith
        by false more = refl

    sum-sorted : (xs : List X) → sum_by f (sorted_by cmp xs) ≡ sum_by f xs
    sum-sorted [] = refl
    sum-sorted (x ∷ xs) =
        let one = sum_by-cons f x (sorted_by cmp xs) in
        let two = sum_by-cons f x xs in
        let more = sum-sorted xs in
        let placed = sum-placed x (sorted_by cmp xs) in
        omega arith

  -- two rising lists of the same items are one
  module _ (total : IsTotalOrder cmp) (exact : (x y : X) → cmp x y ≡ Equal → x ≡ y) where
    tie-self : (x : X) → tie x x ≡ 1
    tie-self x = ap (λ o. cond (is_eq o) 1 0) (tied_itself total x)

    no-tie : (x z : X) (o : Ordering) → cmp x z ≡ o → (o ≡ Equal → ⊥) → tie x z ≡ 0
    no-tie x z Less h n = ap (λ o. cond (is_eq o) 1 0) h
    no-tie x z Equal h n = absurd (n refl)
    no-tie x z Greater h n = ap (λ o. cond (is_eq o) 1 0) h

    -- what is less than the first ties with none
    none-above : (x y : X) → is_lt (cmp x y) ≡ true → (zs : List X) → AllAbove y zs → sum_by (tie x) zs ≡ 0
    none-above x y l [] a = refl
    none-above x y l (z ∷ zs) a =
        let apart : cmp x z ≡ Equal → ⊥ = λ e. absurd (let same : x ≡ z = exact x z e in let t : is_lt (cmp z y) ≡ true = ap (λ w. is_lt (cmp w y)) (sym same) ∙ l in let f : true ≡ false = sym t ∙ a.0 in cc) in
        let first = no-tie x z (cmp x z) refl apart in
        let more = none-above x y l zs a.1 in
        let cons = sum_by-cons (tie x) z zs in
        omega arith

    none-in : (x y : X) → is_lt (cmp x y) ≡ true → (zs : List X) → AllAbove y zs → sum_by (tie x) (y ∷ zs) ≡ 0
    none-in x y l zs a =
        let apart : cmp x y ≡ Equal → ⊥ = λ e. absurd (let t : is_lt (cmp x y) ≡ false = ap is_lt e in let f : true ≡ false = sym l ∙ t in cc) in
        let first = no-tie x y (cmp x y) refl apart in
        let more = none-above x y l zs a in
        let cons = sum_by-cons (tie x) y zs in
        omega arith

    own-tie : (x : X) (xs : List X) → sum_by (tie x) (x ∷ xs) ≡ 1 + sum_by (tie x) xs
    own-tie x xs = let cons = sum_by-cons (tie x) x xs in let self = tie-self x in omega arith

    heads : (x y : X) (xs ys : List X) → AllAbove x xs → AllAbove y ys → ((z : X) → sum_by (tie z) (x ∷ xs) ≡ sum_by (tie z) (y ∷ ys)) → (o : Ordering) → cmp x y ≡ o → x ≡ y
    heads x y xs ys a b same Less h = absurd (let none = none-in x y (ap is_lt h) ys b in let some = own-tie x xs in let s = same x in omega arith)
    heads x y xs ys a b same Equal h = exact x y h
    heads x y xs ys a b same Greater h =
        let l : is_lt (cmp y x) ≡ true = ap is_lt (total.antisymm y x ∙ ap ordering_reverse h) in
        absurd (let none = none-in y x l xs a in let some = own-tie y ys in let s = same y in omega arith)

    pub one-order : (xs ys : List X) → Rises xs → Rises ys → ((z : X) → sum_by (tie z) xs ≡ sum_by (tie z) ys) → xs ≡ ys
    one-order [] [] r s same = refl
    one-order [] (y ∷ ys) r s same = absurd (let some = own-tie y ys in let e = same y in let none : sum_by (tie y) [] ≡ 0 = refl in omega arith)
    one-order (x ∷ xs) [] r s same = absurd (let some = own-tie x xs in let e = same x in let none : sum_by (tie x) [] ≡ 0 = refl in omega arith)
    one-order (x ∷ xs) (y ∷ ys) r s same =
        let first = heads x y xs ys r.0 s.0 same (cmp x y) refl in
        let rest = one-order xs ys r.1 s.1 (λ z.
        let e = same z in
        let one = sum_by-cons (tie z) x xs in
        let two = sum_by-cons (tie z) y ys in
        let heads_tie : tie z x ≡ tie z y = ap (tie z) first in
        omega arith) in
        λ i. first i ∷ rest i

    -- sorted as a sort says it
    rises-from : (xs : List X) → IsSorted cmp xs → Rises xs
    rises-from [] h = tt
    rises-from (x ∷ []) h = (tt, tt)
    rises-from (x ∷ y ∷ ys) h =
        let more = rises-from (y ∷ ys) (λ k d low high. simp add-one (simp add-one at (h (suc k) d (omega arith) (omega arith)))) in
        let first : is_lt (cmp y x) ≡ false = h 0 x (omega arith) (omega arith) in
        ((first, above-weaker total x y first ys more.0), more)

    -- whatever sorted list has the items is the sorted list
    pub sorted_is : (xs ys : List X) → IsPermutation xs ys → IsSorted cmp ys → ys ≡ sorted_by cmp xs
    sorted_is xs ys same sorted = one-order ys (sorted_by cmp xs) (rises-from ys sorted) (rises-sorted total xs) (λ z. sum_by-IsPermutation (tie z) xs ys same ∙ sym (sum-sorted (tie z) xs))

    -- and lists of the same items are one when sorted
    pub sorted_alike : (xs ys : List X) → IsPermutation xs ys → sorted_by cmp xs ≡ sorted_by cmp ys
    sorted_alike xs ys same = one-order (sorted_by cmp xs) (sorted_by cmp ys) (rises-sorted total xs) (rises-sorted total ys) (λ z. sum-sorted (tie z) xs ∙ sym (sum_by-IsPermutation (tie z) xs ys same) ∙ sym (sum-sorted (tie z) ys))
