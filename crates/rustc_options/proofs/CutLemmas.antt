-- A word cut in two at its first `=`.
use Rattle.std.proofs.Common.{◌≡◌, ℕ, suc, ◌<◌, ◌≤◌, ◌+◌, ◌==◌, List, [], ◌∷◌, length, take, drop, Option, None, Some, Bool, true, false, cond, nat_lt, refl, ap, sym, ◌∙◌, arith}
use borrow.Author.Tests.{ltb-true, ltb-false}
use Rattle.std.specs.List.{position_or_len}
use Rattle.rustc_options.specs.Splitting.{before_equals, after_equals, maybe_with_equals}
use Rattle.rustc_options.specs.Printed.{both_again}

abbrev pub is_equals : ℕ → Bool
is_equals b = b == 61

-- how many bytes come before it
abbrev front : List ℕ → ℕ
front w = position_or_len is_equals w

front-later : (b : ℕ) (bs : List ℕ) → (b == 61) ≡ false → front (b ∷ bs) ≡ suc (front bs)
front-later b bs is = rw is (omega arith)

before-step : (b : ℕ) (bs : List ℕ) (is : Bool) → (b == 61) ≡ is → take (front bs) bs ≡ before_equals bs → take (front (b ∷ bs)) (b ∷ bs) ≡ before_equals (b ∷ bs)
before-step b bs true is h = rw is refl
before-step b bs false is h =
    let here : b ∷ before_equals bs ≡ before_equals (b ∷ bs) = rw is refl in
    ap (λ n. take n (b ∷ bs)) (front-later b bs is) ∙ ap (λ (cs : List ℕ). b ∷ cs) h ∙ here

before-front : (w : List ℕ) → take (front w) w ≡ before_equals w
before-front [] = refl
before-front (b ∷ bs) = before-step b bs (b == 61) refl (before-front bs)

after-step : (b : ℕ) (bs : List ℕ) (is : Bool) → (b == 61) ≡ is → (front bs < length bs → after_equals bs ≡ Some (drop (suc (front bs)) bs)) → front (b ∷ bs) < length (b ∷ bs) → after_equals (b ∷ bs) ≡ Some (drop (suc (front (b ∷ bs))) (b ∷ bs))
after-step b bs true is h within = rw is refl
after-step b bs false is h within =
    let later = front-later b bs is in
    let here : after_equals (b ∷ bs) ≡ after_equals bs = rw is refl in
    here ∙ h (omega arith) ∙ ap (λ n. Some (drop (suc n) (b ∷ bs))) (sym later)

after-front : (w : List ℕ) → front w < length w → after_equals w ≡ Some (drop (suc (front w)) w)
after-front [] within = absurd (omega arith)
after-front (b ∷ bs) within = after-step b bs (b == 61) refl (after-front bs) within

none-step : (b : ℕ) (bs : List ℕ) (is : Bool) → (b == 61) ≡ is → (length bs ≤ front bs → after_equals bs ≡ None) → length (b ∷ bs) ≤ front (b ∷ bs) → after_equals (b ∷ bs) ≡ None
none-step b bs true is h past = let p : length (b ∷ bs) ≤ 0 = rw is at past in absurd (omega arith)
none-step b bs false is h past = let p : length (b ∷ bs) ≤ 1 + front bs = rw is at past in rw is (h (omega arith))

none-after : (w : List ℕ) → length w ≤ front w → after_equals w ≡ None
none-after [] past = refl
none-after (b ∷ bs) past = none-step b bs (b == 61) refl (none-after bs) past

-- where it is, as `position` says it
abbrev pub place_if : List ℕ → Bool → Option ℕ
place_if w within = cond within (Some (front w)) None

cut-by : (w : List ℕ) (i : ℕ) (within : Bool) → nat_lt (front w) (length w) ≡ within → Some i ≡ place_if w within → (take i w ≡ before_equals w) × (after_equals w ≡ Some (drop (suc i) w))
cut-by w i true within at = let e : i ≡ front w = cc in rw e (before-front w, after-front w (ltb-true (front w) (length w) within))
cut-by w i false within at = absurd (cc)

pub cut-at : (w : List ℕ) (i : ℕ) → Some i ≡ place_if w (nat_lt (front w) (length w)) → (take i w ≡ before_equals w) × (after_equals w ≡ Some (drop (suc i) w))
cut-at w i at = cut-by w i (nat_lt (front w) (length w)) refl at

whole-by : (w : List ℕ) (within : Bool) → nat_lt (front w) (length w) ≡ within → None ≡ place_if w within → after_equals w ≡ None
whole-by w true within at = absurd (cc)
whole-by w false within at = none-after w (ltb-false (front w) (length w) within)

pub no-cut : (w : List ℕ) → None ≡ place_if w (nat_lt (front w) (length w)) → after_equals w ≡ None
no-cut w at = whole-by w (nat_lt (front w) (length w)) refl at

pub whole-before : (w : List ℕ) → after_equals w ≡ None → before_equals w ≡ w
whole-before w h = sym (ap (maybe_with_equals (before_equals w)) h) ∙ both_again w
