-- Where the entries with each byte are, as they are noted one by one.
use Rattle.std.proofs.Common.{◌≡◌, ◌≢◌, ◌+◌, ◌-◌, ◌&&◌, ℕ, ◌≤◌, ◌<◌, List, length, take, drop, get_or, Bool, true, false, eqb, nat_lt, cond, refl, ap, sym, subst, ◌∙◌, arith}
use Rattle.std.proofs.lemmas.List.{get_or-drop, length-drop, length-map, take-map, drop-map}
use Rattle.std.specs.List.Sorted.{IsNonDecreasingBy}
use Rattle.std.proofs.lemmas.Bool.{eqb-true, eqb-false}
use Rattle.cmdlines_base.specs.declared.table.ArgInfo.{ArgInfo}
use Rattle.cmdlines_base.specs.Table.{entry_of, entries_of}
use Rattle.cmdlines_base.specs.Nodes.{IsPicked, byte_at}
use Rattle.cmdlines_base.specs.Forks.{StandAt}
use Rattle.cmdlines_base.proofs.NodeLemmas.{stretches, taken, left}
use borrow.Author.Tests.{ltb-true, ltb-false}

-- what is noted of the first entries: of their bytes B has the first places and E those after the last ones
pub record Noted {X : Type 0} (At : X → ℕ) (xs : List X) (i : ℕ) (B E : ℕ → ℕ) : Type 0 where
  pub ordered : (b : ℕ) → B b ≤ E b
  pub some : (b : ℕ) → 0 < E b → B b < E b
  pub within : (b : ℕ) → E b ≤ i
  pub found : (k : ℕ) (x : X) → k < i → (B (At (get_or xs k x)) ≤ k) × (k < E (At (get_or xs k x)))
  pub only : (b k : ℕ) (x : X) → B b ≤ k → k < E b → At (get_or xs k x) ≡ b

pub none_noted : {X : Type 0} (At : X → ℕ) (xs : List X) (B E : ℕ → ℕ) → ((b : ℕ) → B b ≡ 0) → ((b : ℕ) → E b ≡ 0) → Noted At xs 0 B E
none_noted At xs B E none none2 = record {
  ordered = λ b. omega (arith, none b);
  some = λ b h. absurd (omega (arith, h, none2 b));
  within = λ b. omega (arith, none2 b);
  found = λ k x h. absurd (omega (arith, h));
  only = λ b k x l h. absurd (omega (arith, h, none2 b));
}

-- one more
module _ {X : Type 0} (At : X → ℕ) (xs : List X) (i a : ℕ) (B E B' E' : ℕ → ℕ)
    (lt : i < length xs)
    (rising : IsNonDecreasingBy At xs)
    (at : (x : X) → At (get_or xs i x) ≡ a)
    (begins : (b : ℕ) → B' b ≡ cond (eqb b a && eqb (E b) 0) i (B b))
    (ends : (b : ℕ) → E' b ≡ cond (eqb b a) (i + 1) (E b))
    (old : Noted At xs i B E) where
  new_ordered : (b : ℕ) → B' b ≤ E' b
  new_ordered b = grind (arith, begins b, ends b, old.ordered b, old.within b)

  new_some : (b : ℕ) → 0 < E' b → B' b < E' b
  new_some b h = grind (arith, begins b, ends b, old.ordered b, old.some b, old.within b)

  new_within : (b : ℕ) → E' b ≤ i + 1
  new_within b = grind (arith, ends b, old.within b)

  new_found : (k : ℕ) (x : X) → k < i + 1 → (B' (At (get_or xs k x)) ≤ k) × (k < E' (At (get_or xs k x)))
  new_found k x h = by (nat_lt k i) refl
    where
      by : (s : Bool) → nat_lt k i ≡ s → (B' (At (get_or xs k x)) ≤ k) × (k < E' (At (get_or xs k x)))
      by true q =
          let b = At (get_or xs k x) in
          let f = old.found k x (ltb-true k i q) in
          (grind (arith, begins b, f.0, f.1), grind (arith, ends b, f.1, h))
      by false q =
          let here : k ≡ i = omega (arith, ltb-false k i q, h) in
          let b = At (get_or xs k x) in
          let is : b ≡ a = ap (λ j. At (get_or xs j x)) here ∙ at x in
          (grind (arith, begins b, old.ordered b, old.within b, old.some b, is, here), grind (arith, ends b, is, here))

  new_only : (b k : ℕ) (x : X) → B' b ≤ k → k < E' b → At (get_or xs k x) ≡ b
  new_only b k x low high = by (eqb b a) refl (eqb (E b) 0) refl (nat_lt k (E b)) refl
    where
      by : (s : Bool) → eqb b a ≡ s → (t : Bool) → eqb (E b) 0 ≡ t → (u : Bool) → nat_lt k (E b) ≡ u → At (get_or xs k x) ≡ b
      by false q t p u r = old.only b k x (grind (arith, begins b, q, low)) (grind (arith, ends b, q, high))
      by true q true p u r =
          let here : k ≡ i = grind (arith, begins b, ends b, q, p, low, high) in
          ap (λ j. At (get_or xs j x)) here ∙ at x ∙ sym (eqb-true b a q)
      by true q false p true r = old.only b k x (grind (arith, begins b, q, p, low)) (ltb-true k (E b) r)
      by true q false p false r =
          let none : E b ≢ 0 = eqb-false (E b) 0 p in
          let above : E b ≤ k = ltb-false k (E b) r in
          let below : k < i + 1 = grind (arith, ends b, q, high) in
          let least : B b < E b = old.some b (omega (arith, none)) in
          let last : At (get_or xs (E b - 1) x) ≡ b = old.only b (E b - 1) x (omega (arith, least)) (omega (arith, least)) in
          let up : At (get_or xs (E b - 1) x) ≤ At (get_or xs k x) = rising (E b - 1) k x (omega (arith, above)) (omega (arith, below, lt)) in
          let down : At (get_or xs k x) ≤ At (get_or xs i x) = rising k i x (omega (arith, below)) lt in
          omega (arith, last, up, down, at x, eqb-true b a q)

  pub one_noted : Noted At xs (i + 1) B' E'
  one_noted = record { ordered = new_ordered; some = new_some; within = new_within; found = new_found; only = new_only }

-- the byte after the first one
abbrev pub second : {T K : Type 0} → ArgInfo T K → ℕ
second x = byte_at 1 (entry_of x)

-- once all are noted, those with each byte are where it is noted
pub noted_stand : {T K : Type 0} (xs : List (ArgInfo T K)) (B E : ℕ → ℕ) → Noted second xs (length xs) B E → (b : ℕ) → StandAt (entries_of xs) b (B b) (E b)
noted_stand xs B E h b =
    let le : B b ≤ E b = h.ordered b in
    let within : E b ≤ length xs = h.within b in
    let count = E b - B b in
    record {
      ordered = le;
      within = omega (arith, within, length-map xs entry_of);
      picked = subst (λ ys. IsPicked 1 b (entries_of xs) ys) (sym (ap (λ ys. take count ys) (drop-map entry_of (B b) xs) ∙ take-map entry_of count (drop (B b) xs)))
          (stretches 1 b xs (B b) count
          (taken (λ y. second y ≢ b) (B b) xs (omega (arith, le, within)) (λ k d l lt has.
          let f = h.found k d (omega (arith, lt, le, within)) in omega (arith, lt, subst (λ n. B n ≤ k) has f.0)))
          (taken (λ y. second y ≡ b) count (drop (B b) xs) (omega (arith, length-drop (B b) xs, le, within)) (λ k d l lt.
          subst (λ y. second y ≡ b) (sym (get_or-drop (B b) xs k d)) (h.only b (B b + k) d (omega arith) (omega (arith, lt, le)))))
          (left (λ y. second y ≢ b) count (drop (B b) xs) (λ k d l lt has.
          let g : second (get_or xs (B b + k) d) ≡ b = subst (λ y. second y ≡ b) (get_or-drop (B b) xs k d) has in
          let f = h.found (B b + k) d (omega (arith, lt, length-drop (B b) xs)) in
          omega (arith, l, le, subst (λ n. B b + k < E n) g f.1))));
    }
