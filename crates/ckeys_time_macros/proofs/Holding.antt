-- A text holds a word exactly where the word occurs at some place, so exactly where it is in the text.
use Rattle.std.proofs.Common.{◌≡◌, ℕ, zero, suc, ◌+◌, ◌-◌, ◌<◌, ◌≤◌, List, ◌++◌, length, take, drop, append_assoc, sym, ap, subst, ◌∙◌, arith, true, inl, inr}
use Rattle.std.specs.Prelude.{◌↔◌, IsTrue, is_some}
use Rattle.std.proofs.lemmas.Bool.{cases_Bool, cond-true, cond-false, cases_eq, false≢true}
use Rattle.std.proofs.lemmas.List.{length-append, take-append-drop, get_or_append_left, get_or-append-add}
use Rattle.memchr.specs.Find.{OccursAt, first_of, matches_from, occurs_at}
use Rattle.memchr.proofs.lemmas.MatchLemmas.{OccursAt-true, occurs_at-true, OccursAt-split}
use Rattle.base_files.specs.Bytes.{Bytes}
use Rattle.ckeys_time_macros.specs.Macros.{holds, StandsIn}

-- the word occurs at some place of the text
abbrev pub Occurs : Bytes → Bytes → Type 0
Occurs text word = (k : ℕ) × OccursAt text word k

module _ (text word : Bytes) where
  -- a list of matches that isn't empty has one
  found_occurs : (i n : ℕ) → is_some (first_of (matches_from text word 0 i n)) ≡ true → Occurs text word
  unfolding matches_from first_of
  found_occurs i zero found = absurd cc
  found_occurs i (suc n) found = elim (cases_Bool (occurs_at text word i)) [
    | inl here ↦ (i, OccursAt-true text word i here)
    | inr not_here ↦ found_occurs (i + 1) n (sym (ap (λ (l : List ℕ). is_some (first_of l)) (cond-false _ _ _ not_here)) ∙ found)
  ]

  -- where it occurs among the places that are tried, the list isn't empty
  occurring_found : (i n k : ℕ) → i ≤ k → k < i + n → OccursAt text word k → is_some (first_of (matches_from text word 0 i n)) ≡ true
  unfolding matches_from first_of
  occurring_found i zero k low high at = absurd (omega arith)
  occurring_found i (suc n) k low high at = elim (cases_Bool (occurs_at text word i)) [
    | inl here ↦ ap (λ (l : List ℕ). is_some (first_of l)) (cond-true _ _ _ here)
    | inr not_here ↦ ap (λ (l : List ℕ). is_some (first_of l)) (cond-false _ _ _ not_here) ∙ elim (cases_eq i k) [
      | inl same ↦ absurd (false≢true (sym not_here ∙ occurs_at-true text word i (subst (OccursAt text word) (sym same) at)))
      | inr apart ↦ occurring_found (i + 1) n k (omega arith) (omega arith) at
    ]
  ]

  pub Occurs-holds : IsTrue (holds text word) ↔ Occurs text word
  Occurs-holds = (
    found_occurs 0 (length text + 1 - 0),
    λ o. occurring_found 0 (length text + 1 - 0) o.0 (omega arith) (omega (arith, o.1.fits)) o.1,
  )

  pub StandsIn-Occurs : Occurs text word → StandsIn word text
  StandsIn-Occurs o = record {
    front = take o.0 text;
    rest = drop (o.0 + length word) text;
    cut = sym (take-append-drop o.0 text) ∙ ap (λ (l : Bytes). take o.0 text ++ l) (OccursAt-split text word o.0 o.1) ∙ sym (append_assoc (take o.0 text) word (drop (o.0 + length word) text));
  }

-- a word between two texts occurs after the first
between : (front word rest : Bytes) → OccursAt (front ++ (word ++ rest)) word (length front)
between front word rest = record {
  fits = omega (arith, length-append front (word ++ rest), length-append word rest);
  reads = λ j lt. get_or-append-add front (word ++ rest) j 0 ∙ get_or_append_left word rest 0 j lt;
}

pub Occurs-StandsIn : (text word : Bytes) → StandsIn word text → Occurs text word
Occurs-StandsIn text word stands = (length stands.front, subst (λ (t : Bytes). OccursAt t word (length stands.front)) (sym (stands.cut ∙ append_assoc stands.front word stands.rest)) (between stands.front word stands.rest))
