-- One more result, in its place.
use Rattle.std.proofs.Common.{◌≡◌, ℕ, suc, zero, ◌+◌, ◌-◌, ◌<◌, ◌≤◌, Bool, true, false, List, [], ◌∷◌, length, get_or, refl, sym, ap, subst, ◌∙◌, arith, inl, inr, ◌⊎◌, set}
use Rattle.std.specs.List.{Contains, insert}
use Rattle.std.specs.Str.{bytes_eq}
use Rattle.std.proofs.lemmas.Bool.{and_parts, and_from, or_parts, ltb-false}
use Rattle.std.proofs.lemmas.List.Elements.{Contains-append_left, Contains-append_right, Contains-append_cases, Contains-push, Contains-push_cases}
use Rattle.std.proofs.lemmas.List.Sums.{get_or-le-sum_by, sum_by-cons, sum_by-insert, sum_by-set}
use Rattle.ckeys_include_records.specs.Records.{includes_in, is_before, is_record}
use Rattle.ckeys_include_records.specs.Results.{HasMore, place_for, put_in, starts_over, with_result}
use Rattle.ckeys_include_records.specs.declared.entry.CachedResult.{CachedResult}
use Rattle.ckeys_include_records.proofs.KeyOrder.{put_in-before, put_in-same, put_in-after, rises-put_in}
use Rattle.ckeys_include_records.proofs.SmallRecords.{is_small-many}

-- its place holds the key, and so it's replaced
pub put_in-set : (r : CachedResult) (results : List CachedResult) (d : CachedResult) → place_for results r.key < length results → bytes_eq (get_or results (place_for results r.key) d).key r.key ≡ true
    → put_in r results ≡ set results (place_for results r.key) r
put_in-set r [] d lt same = absurd (omega arith)
put_in-set r (q ∷ results) d lt same = by (λ less here. put_in-set r results d less here) (is_before q.key r.key) refl
  where
    by : (place_for results r.key < length results → bytes_eq (get_or results (place_for results r.key) d).key r.key ≡ true → put_in r results ≡ set results (place_for results r.key) r)
        → (b : Bool) → is_before q.key r.key ≡ b → put_in r (q ∷ results) ≡ set (q ∷ results) (place_for (q ∷ results) r.key) r
    by rest true e =
        let at : place_for (q ∷ results) r.key ≡ suc (place_for results r.key) = rw e (omega arith) in
        let deeper : bytes_eq (get_or results (place_for results r.key) d).key r.key ≡ true = rw at at same in
        put_in-before r q results e ∙ ap (λ (l : List CachedResult). q ∷ l) (rest (omega (arith, at)) deeper) ∙ ap (λ (n : ℕ). set (q ∷ results) n r) (sym at)
    by rest false e =
        let at : place_for (q ∷ results) r.key ≡ 0 = rw e refl in
        let here : bytes_eq q.key r.key ≡ true = rw at at same in
        put_in-same r q results e here ∙ ap (λ (n : ℕ). set (q ∷ results) n r) (sym at)

-- its place doesn't hold that key, and so it goes before what is there
pub put_in-insert : (r : CachedResult) (results : List CachedResult) → ((d : CachedResult) → place_for results r.key < length results → bytes_eq (get_or results (place_for results r.key) d).key r.key ≡ false)
    → put_in r results ≡ insert results (place_for results r.key) r
unfolding put_in
put_in-insert r [] absent = refl
put_in-insert r (q ∷ results) absent = by (λ no. put_in-insert r results no) (is_before q.key r.key) refl
  where
    by : (((d : CachedResult) → place_for results r.key < length results → bytes_eq (get_or results (place_for results r.key) d).key r.key ≡ false) → put_in r results ≡ insert results (place_for results r.key) r)
        → (b : Bool) → is_before q.key r.key ≡ b → put_in r (q ∷ results) ≡ insert (q ∷ results) (place_for (q ∷ results) r.key) r
    by rest true e =
        let at : place_for (q ∷ results) r.key ≡ suc (place_for results r.key) = rw e (omega arith) in
        let deeper : (d : CachedResult) → place_for results r.key < length results → bytes_eq (get_or results (place_for results r.key) d).key r.key ≡ false =
        λ d lt. rw at at (absent d (omega (arith, at))) in
        put_in-before r q results e ∙ ap (λ (l : List CachedResult). q ∷ l) (rest deeper) ∙ ap (λ (n : ℕ). insert (q ∷ results) n r) (sym at)
    by rest false e =
        let at : place_for (q ∷ results) r.key ≡ 0 = rw e refl in
        let here : bytes_eq q.key r.key ≡ false = rw at at (absent q (omega (arith, at))) in
        put_in-after r q results e here ∙ ap (λ (n : ℕ). insert (q ∷ results) n r) (sym at)

-- what is counted and how many there are
includes_in-cons : (q : CachedResult) (results : List CachedResult) → includes_in (q ∷ results) ≡ length q.includes + includes_in results
includes_in-cons q results = sum_by-cons (λ (r : CachedResult). length r.includes) q results

abbrev pub IsOneMore : CachedResult → List CachedResult → List CachedResult → Type 0
IsOneMore r old new = (length new ≤ length old + 1) × (includes_in new ≤ includes_in old + length r.includes)

pub put_in-le : (r : CachedResult) (results : List CachedResult) → IsOneMore r results (put_in r results)
unfolding put_in
put_in-le r [] = (omega arith, omega (arith, includes_in-cons r []))
put_in-le r (q ∷ results) = by (put_in-le r results) (is_before q.key r.key) refl
  where
    by_same : is_before q.key r.key ≡ false → (b : Bool) → bytes_eq q.key r.key ≡ b → IsOneMore r (q ∷ results) (put_in r (q ∷ results))
    by_same e true s = rw (put_in-same r q results e s) (omega arith, omega (arith, includes_in-cons r results, includes_in-cons q results))
    by_same e false s = rw (put_in-after r q results e s) (omega arith, omega (arith, includes_in-cons r (q ∷ results), includes_in-cons q results))

    by : IsOneMore r results (put_in r results) → (b : Bool) → is_before q.key r.key ≡ b → IsOneMore r (q ∷ results) (put_in r (q ∷ results))
    by rest true e = rw (put_in-before r q results e) (omega (arith, rest.0), omega (arith, rest.1, includes_in-cons q results, includes_in-cons q (put_in r results)))
    by rest false e = by_same e (bytes_eq q.key r.key) refl

-- a record stays one
pub put_in-is_record : (r : CachedResult) (results : List CachedResult) → starts_over results r.includes ≡ false → is_record results ≡ true → is_record (put_in r results) ≡ true
put_in-is_record r results stays is =
    let parts = or_parts _ _ stays in
    let few : length results ≤ 100 = ltb-false 100 (length results) parts.0 in
    let bounded : includes_in results + length r.includes ≤ 10000 = ltb-false 10000 _ parts.1 in
    let le = put_in-le r results in
    and_from _ _ (is_small-many (put_in r results) (omega (arith, le.0)) (omega (arith, le.1))) (rises-put_in r results (and_parts _ _ is).1)

-- the new one is among them, and each other one was there
here : (r : CachedResult) (results : List CachedResult) → Contains (r ∷ results) r
here r results = Contains-append_left (r ∷ []) results r (Contains-push [] r)

later : (r q : CachedResult) (results : List CachedResult) → Contains results q → Contains (r ∷ results) q
later r q results c = Contains-append_right (r ∷ []) results q c

first_or_later : (r q : CachedResult) (results : List CachedResult) → Contains (r ∷ results) q → (r ≡ q) ⊎ Contains results q
first_or_later r q results c = elim (Contains-append_cases (r ∷ []) results q c) [
  | inl first ↦ elim (Contains-push_cases [] r q first) [
    | inl none ↦ absurd (omega (arith, none.1))
    | inr same ↦ inl same
  ]
  | inr rest ↦ inr rest
]

-- what follows the new one was there
followed : (r : CachedResult) (old results : List CachedResult) → ((q : CachedResult) → Contains results q → Contains old q) → HasMore old r (r ∷ results)
followed r old results was = record {
  others = λ q c. elim (first_or_later r q results c) [ inl same ↦ inr (sym same) | inr rest ↦ inl (was q rest) ];
  among = here r results;
}

-- what comes before both stays
after : (p r : CachedResult) (old new : List CachedResult) → HasMore old r new → HasMore (p ∷ old) r (p ∷ new)
after p r old new more = record {
  others = λ q c. elim (first_or_later p q new c) [
    | inl same ↦ inl (subst (Contains (p ∷ old)) same (here p old))
    | inr rest ↦ elim (more.others q rest) [ inl was ↦ inl (later p q old was) | inr is ↦ inr is ]
  ];
  among = later p r new more.among;
}

-- the new one is among them, and each other one was there
put_in-more : (r : CachedResult) (results : List CachedResult) → HasMore results r (put_in r results)
unfolding put_in
put_in-more r [] = followed r [] [] (λ q c. c)
put_in-more r (q ∷ results) = by (put_in-more r results) (is_before q.key r.key) refl
  where
    by_same : is_before q.key r.key ≡ false → (b : Bool) → bytes_eq q.key r.key ≡ b → HasMore (q ∷ results) r (put_in r (q ∷ results))
    by_same e true s = rw (put_in-same r q results e s) (followed r (q ∷ results) results (λ p c. later q p results c))
    by_same e false s = rw (put_in-after r q results e s) (followed r (q ∷ results) (q ∷ results) (λ p c. c))

    by : HasMore results r (put_in r results) → (b : Bool) → is_before q.key r.key ≡ b → HasMore (q ∷ results) r (put_in r (q ∷ results))
    by rest true e = rw (put_in-before r q results e) (after q r results (put_in r results) rest)
    by rest false e = by_same e (bytes_eq q.key r.key) refl

pub with_result-over : (r : CachedResult) (results : List CachedResult) → starts_over results r.includes ≡ true → with_result results r ≡ r ∷ []
with_result-over r results e = rw e refl

pub with_result-in : (r : CachedResult) (results : List CachedResult) → starts_over results r.includes ≡ false → with_result results r ≡ put_in r results
with_result-in r results e = rw e refl

pub with_result-more : (r : CachedResult) (results : List CachedResult) → HasMore results r (with_result results r)
with_result-more r results = by (starts_over results r.includes) refl
  where
    by : (b : Bool) → starts_over results r.includes ≡ b → HasMore results r (with_result results r)
    by true e = subst (HasMore results r) (sym (with_result-over r results e)) (followed r results [] (λ q none. absurd (omega (arith, none.1))))
    by false e = subst (HasMore results r) (sym (with_result-in r results e)) (put_in-more r results)

-- the includes that are counted once a result is replaced, and once one is put in
pub includes_in-set : (r d : CachedResult) (results : List CachedResult) (at : ℕ) → at < length results → includes_in (set results at r) + length (get_or results at d).includes ≡ includes_in results + length r.includes
includes_in-set r d results at lt = sum_by-set (λ (q : CachedResult). length q.includes) results at r d lt

pub includes_in-insert : (r : CachedResult) (results : List CachedResult) (at : ℕ) → includes_in (insert results at r) ≡ includes_in results + length r.includes
includes_in-insert r results at = sum_by-insert (λ (q : CachedResult). length q.includes) results at r

includes_in-get_or : (d : CachedResult) (results : List CachedResult) (at : ℕ) → at < length results → length (get_or results at d).includes ≤ includes_in results
includes_in-get_or d results at lt = get_or-le-sum_by (λ (q : CachedResult). length q.includes) results at d lt

-- what is kept of the fields of a record
abbrev pub IsKept : ℕ → List CachedResult → Type 0
IsKept count results = (count ≡ includes_in results) × (is_record results ≡ true)

-- a result that takes another's place
module _ (r d : CachedResult) (results old : List CachedResult) (at : ℕ) (same : results ≡ old) (place : at ≡ place_for results r.key) (lt : at < length results) (holds : d ≡ get_or results at d) where
  pub replaced : bytes_eq d.key r.key ≡ true → set results at r ≡ put_in r old
  replaced eq =
      let there : bytes_eq (get_or results (place_for results r.key) d).key r.key ≡ true = ap (λ (n : ℕ). bytes_eq (get_or results n d).key r.key) (sym place) ∙ ap (λ (q : CachedResult). bytes_eq q.key r.key) (sym holds) ∙ eq in
      ap (λ (n : ℕ). set results n r) place ∙ sym (put_in-set r results d (omega (arith, place)) there) ∙ ap (put_in r) same

  pub replaced-kept : (count : ℕ) → bytes_eq d.key r.key ≡ true → starts_over old r.includes ≡ false → IsKept count results → IsKept (count - length d.includes + length r.includes) (set results at r)
  replaced-kept count eq stays kept =
      let put : set results at r ≡ put_in r results = replaced eq ∙ ap (put_in r) (sym same) in
      let lens : length (get_or results at d).includes ≡ length d.includes = ap (λ (q : CachedResult). length q.includes) (sym holds) in
      (omega (arith, includes_in-set r d results at lt, includes_in-get_or d results at lt, lens, kept.0), ap is_record put ∙ put_in-is_record r results (ap (λ (l : List CachedResult). starts_over l r.includes) same ∙ stays) kept.1)

pub get_or_any : (results : List CachedResult) (at : ℕ) (d e : CachedResult) → at < length results → get_or results at d ≡ get_or results at e
get_or_any [] at d e lt = absurd (omega arith)
get_or_any (q ∷ results) zero d e lt = refl
get_or_any (q ∷ results) (suc at) d e lt = get_or_any results at d e (omega arith)

-- another key is there
abbrev pub StandsElse : CachedResult → List CachedResult → ℕ → Type 0
StandsElse r results at = (d : CachedResult) × (d ≡ get_or results at d) × (bytes_eq d.key r.key ≡ false)

-- a result that is put before others
module _ (r : CachedResult) (results old new : List CachedResult) (at : ℕ) (same : results ≡ old) (place : at ≡ place_for results r.key) (absent : at < length results → StandsElse r results at) (is : new ≡ insert results at r) where
  pub inserted : new ≡ put_in r old
  inserted =
      let differ : (d : CachedResult) → place_for results r.key < length results → bytes_eq (get_or results (place_for results r.key) d).key r.key ≡ false =
      λ d lt. let less : at < length results = omega (arith, place, lt) in
      let there = absent less in
      ap (λ (n : ℕ). bytes_eq (get_or results n d).key r.key) (sym place) ∙ ap (λ (q : CachedResult). bytes_eq q.key r.key) (get_or_any results at d there.0 less ∙ sym there.1) ∙ there.2 in
      is ∙ ap (λ (n : ℕ). insert results n r) place ∙ sym (put_in-insert r results differ) ∙ ap (put_in r) same

  pub inserted-kept : (count : ℕ) → starts_over old r.includes ≡ false → IsKept count results → IsKept (count + length r.includes) new
  inserted-kept count stays kept =
      let put : new ≡ put_in r results = inserted ∙ ap (put_in r) (sym same) in
      let sum : includes_in new ≡ includes_in results + length r.includes = ap includes_in is ∙ includes_in-insert r results at in
      (omega (arith, sum, kept.0), ap is_record put ∙ put_in-is_record r results (ap (λ (l : List CachedResult). starts_over l r.includes) same ∙ stays) kept.1)
