-- How far a node's flags and a word begin alike.
use Rattle.std.proofs.Common.{◌≡◌, ◌≢◌, ℕ, zero, suc, max, ◌≤◌, ◌<◌, ◌+◌, List, [], ◌∷◌, ◌++◌, length, take, drop, get_or, refl, ap, subst, arith, All}
use Rattle.std.specs.Prelude.{not, ◌==◌, ◌||◌, nat_lt}
use mir.Val.{bool_byte}
use Rattle.std.proofs.lemmas.List.Elements.{All-head, All-tail, All-weaker}
use Rattle.cmdlines_base.specs.Nodes.{Begins, GoesOn, IsNode, IsPicked, LacksByte}
use Rattle.cmdlines_base.specs.Reach.{reach, shared}
use Rattle.cmdlines_base.specs.declared.table.ArgInfo.{ArgInfo}
use Rattle.cmdlines_base.specs.Table.{Entry, entries_of, entry_of}
use Rattle.cmdlines_base.proofs.NodeLemmas.{all_back, all_both, all_front}

-- a flag that begins as the word does, and no further
shared-at : (d : ℕ) (flag word : List ℕ) → d ≤ length flag → take d flag ≡ take d word → (d < length flag → d < length word → get_or flag d 0 ≢ get_or word d 0) → shared flag word ≡ d
shared-at zero [] word le same stop = refl
shared-at zero (b ∷ flag) [] le same stop = refl
shared-at zero (b ∷ flag) (c ∷ word) le same stop = grind (arith, stop (omega arith) (omega arith))
shared-at (suc d) [] word le same stop = absurd (omega (arith, le))
shared-at (suc d) (b ∷ flag) [] le same stop = absurd (omega (arith, ap (λ (l : List ℕ). length l) same))
shared-at (suc d) (b ∷ flag) (c ∷ word) le same stop = grind (arith, ap (λ (l : List ℕ). get_or l 0 0) same, shared-at d flag word (omega (arith, le)) (ap (λ (l : List ℕ). drop 1 l) same) (λ p q. stop (omega (arith, p)) (omega (arith, q))))

-- at least that far
shared-least : (d : ℕ) (flag word : List ℕ) → d ≤ length flag → take d flag ≡ take d word → d ≤ shared flag word
shared-least zero flag word le same = omega arith
shared-least (suc d) [] word le same = absurd (omega (arith, le))
shared-least (suc d) (b ∷ flag) [] le same = absurd (omega (arith, ap (λ (l : List ℕ). length l) same))
shared-least (suc d) (b ∷ flag) (c ∷ word) le same = grind (arith, ap (λ (l : List ℕ). get_or l 0 0) same, shared-least d flag word (omega (arith, le)) (ap (λ (l : List ℕ). drop 1 l) same))

module _ {K : Type 0} (d : ℕ) (word : List ℕ) where
  abbrev Stops : Entry K → Type 0
  Stops e = shared e.flag word ≡ d

  -- entries that stop here reach no further
  reach-stops : (es : List (Entry K)) → All Stops es → max d (reach es word) ≡ d
  reach-stops [] h = omega arith
  reach-stops (e ∷ es) h = omega (arith, All-head Stops e es h, reach-stops es (All-tail Stops e es h))

  reach-append : (es fs : List (Entry K)) → reach (es ++ fs) word ≡ max (reach es word) (reach fs word)
  reach-append [] fs = omega arith
  reach-append (e ∷ es) fs = omega (arith, reach-append es fs)

  -- an entry whose flag ends here
  pub reach-ended : (e : Entry K) (es : List (Entry K)) → IsNode d word (e ∷ es) → length e.flag ≤ d → max d (reach es word) ≡ max d (reach (e ∷ es) word)
  reach-ended e es node le =
      let b = All-head (Begins d word) e es node.begin in
      omega (arith, shared-at d e.flag word b.long b.alike (λ p q. absurd (omega (arith, p, le))))

  -- at the word's end none goes further
  pub reach-all : (es : List (Entry K)) → length word ≤ d → IsNode d word es → max d (reach es word) ≡ d
  reach-all es le node = reach-stops es (All-weaker (Begins d word) Stops (λ e b. shared-at d e.flag word b.long b.alike (λ p q. absurd (omega (arith, q, le)))) es node.begin)

  -- a node that isn't empty reaches here
  pub reach-least : (e : Entry K) (es : List (Entry K)) → IsNode d word (e ∷ es) → d ≤ reach (e ∷ es) word
  reach-least e es node =
      let b = All-head (Begins d word) e es node.begin in
      omega (arith, shared-least d e.flag word b.long b.alike)

  -- those with the word's next byte alone go further
  pub reach-below : (es ps : List (Entry K)) → d < length word → IsNode d word es → All (GoesOn d) es → IsPicked d (get_or word d 0) es ps → max d (reach es word) ≡ max d (reach ps word)
  reach-below es ps lt node on p =
      let full = subst (All (λ e. Begins d word e × GoesOn d e)) p.whole (all_both (Begins d word) (GoesOn d) es node.begin on) in
      let front = stops p.front (all_front (λ e. Begins d word e × GoesOn d e) p.front (ps ++ p.back) full) p.before in
      let back = stops p.back (all_back (λ e. Begins d word e × GoesOn d e) ps p.back (all_back (λ e. Begins d word e × GoesOn d e) p.front (ps ++ p.back) full)) p.after in
      omega (arith, ap (λ fs. reach fs word) p.whole, reach-append p.front (ps ++ p.back), reach-append ps p.back, reach-stops p.front front, reach-stops p.back back)
    where
      stops : (fs : List (Entry K)) → All (λ e. Begins d word e × GoesOn d e) fs → All (LacksByte d (get_or word d 0)) fs → All Stops fs
      stops fs h lacks = All-weaker (λ e. (Begins d word e × GoesOn d e) × LacksByte d (get_or word d 0) e) Stops (λ e f. shared-at d e.flag word f.0.0.long f.0.0.alike (λ a b. f.1)) fs (all_both (λ e. Begins d word e × GoesOn d e) (LacksByte d (get_or word d 0)) fs h lacks)

-- two lists one after the other
pub reach-both : {K : Type 0} (word : List ℕ) (es fs : List (Entry K)) → reach (es ++ fs) word ≡ max (reach es word) (reach fs word)
reach-both word es fs = reach-append 0 word es fs

-- nothing reaches nowhere, and a node of some entries here at least
pub reach-none : {T K : Type 0} (word : List ℕ) (xs : List (ArgInfo T K)) → length xs ≡ 0 → reach (entries_of xs) word ≡ 0
reach-none word [] h = refl
reach-none word (x ∷ xs) h = absurd (omega (arith, h))

pub reach-some : {T K : Type 0} (d : ℕ) (word : List ℕ) (xs : List (ArgInfo T K)) → 0 < length xs → IsNode d word (entries_of xs) → d ≤ reach (entries_of xs) word
reach-some d word [] lt node = absurd (omega (arith, lt))
reach-some d word (x ∷ xs) lt node = reach-least d word (entry_of x) (entries_of xs) node

-- of two nodes of which one isn't empty, one reaches here
pub reach-either : {T K : Type 0} (d : ℕ) (word : List ℕ) (xs ys : List (ArgInfo T K)) → 0 < length xs + length ys
    → IsNode d word (entries_of xs) → IsNode d word (entries_of ys) → d ≤ max (reach (entries_of xs) word) (reach (entries_of ys) word)
reach-either d word [] ys lt one two = omega (arith, reach-some d word ys (omega (arith, lt)) two)
reach-either d word (x ∷ xs) ys lt one two = omega (arith, reach-some d word (x ∷ xs) (omega arith) one)

-- and where no byte more is known, whether one reaches here
pub reach-first : {T K : Type 0} (word : List ℕ) (xs : List (ArgInfo T K)) (r : ℕ) → IsNode 1 word (entries_of xs) → r ≡ reach (entries_of xs) word → not (length xs == 0) ≡ nat_lt 0 r
reach-first word [] r node is = rw is refl
reach-first word (x ∷ xs) r node is =
    let far : 0 < r = omega (arith, is, reach-least 1 word (entry_of x) (entries_of xs) node) in
    grind (arith, far)

-- none reaches past the end of the word
shared-within : (flag word : List ℕ) → shared flag word ≤ length word
shared-within [] word = omega arith
shared-within (b ∷ flag) [] = omega arith
shared-within (b ∷ flag) (c ∷ word) = grind (arith, shared-within flag word)

pub reach-within : {K : Type 0} (es : List (Entry K)) (word : List ℕ) → reach es word ≤ length word
reach-within [] word = omega arith
reach-within (e ∷ es) word = omega (arith, shared-within e.flag word, reach-within es word)

-- what two tables' nodes after two bytes say of how far their tables are walked
module _ {K : Type 0} (word : List ℕ) (t u e f : List (Entry K)) (one : max 1 (reach e word) ≡ max 1 (reach t word)) (two : max 1 (reach f word) ≡ max 1 (reach u word)) where
  pub steps-on : (further : ℕ) → 2 + further ≡ max (reach e word) (reach f word) → 1 + 2 + further ≡ suc (reach (t ++ u) word)
  steps-on further is = omega (arith, one, two, is, reach-both word t u)

  pub steps-short : reach e word ≡ 0 → reach f word ≡ 0 → (bytes : ℕ) → bytes ≡ bool_byte (nat_lt 0 (reach t word) || nat_lt 0 (reach u word)) → 1 + bytes ≡ suc (reach (t ++ u) word)
  steps-short none nothing bytes is = omega (arith, is, bit (reach t word) (reach u word) (omega (arith, one, none)) (omega (arith, two, nothing)), reach-both word t u)
    where
      bit : (a b : ℕ) → a ≤ 1 → b ≤ 1 → bool_byte (nat_lt 0 a || nat_lt 0 b) ≡ max a b
      bit zero zero p q = refl
      bit zero (suc zero) p q = refl
      bit (suc zero) zero p q = refl
      bit (suc zero) (suc zero) p q = refl
      bit zero (suc (suc b)) p q = absurd (omega (arith, q))
      bit (suc zero) (suc (suc b)) p q = absurd (omega (arith, q))
      bit (suc (suc a)) b p q = absurd (omega (arith, p))
