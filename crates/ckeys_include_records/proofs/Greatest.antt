-- The key that a look-up answers is the greatest of those whose include lists are there.
use Rattle.std.proofs.Common.{◌≡◌, ◌<◌, Bool, true, false, cond, List, [], ◌∷◌, ◌++◌, reverse, Option, Some, None, refl, sym, ap, subst, ◌∙◌, arith, inl, inr}
use Rattle.std.specs.Prelude.{IfSome}
use Rattle.std.specs.List.{Contains, find}
use Rattle.std.specs.List.Sorted.{IsPermutation}
use Rattle.std.specs.Option.{option_map, option_or}
use Rattle.std.specs.Ordering.{nat_cmp, is_lt, ordering_reverse}
use Rattle.std.specs.declared.cmp.Ordering.{Ordering}
use Rattle.std.specs.declared.cmp.Ordering.TheVariants.{Less, Equal, Greater}
use Rattle.std.specs.Cmp.Lexicographic.{slice_cmp}
use Rattle.std.proofs.lemmas.Cmp.{nat_list_cmp_total}
use Rattle.std.proofs.lemmas.List.{reverse-append, reverse-reverse}
use Rattle.std.proofs.lemmas.List.Folds.{find-append}
use Rattle.std.proofs.lemmas.List.Sorted.{Contains-permutation, IsPermutation-reverse}
use Rattle.base_files.specs.Bytes.{Bytes}
use Rattle.base_formats.specs.FieldFormats.{some_is}
use Rattle.ckeys_include_records.specs.LookUps.{NoneAbove, last_there}
use Rattle.ckeys_include_records.specs.Records.{is_before, rises}
use Rattle.ckeys_include_records.specs.Surroundings.{Place, are_there}
use Rattle.ckeys_include_records.specs.declared.entry.CachedResult.{CachedResult}
use Rattle.ckeys_include_records.proofs.KeyOrder.{rises-first, rises-rest}
use Rattle.ckeys_include_records.proofs.Looking.{find_none, find_some, first_or_later}

-- a key before another isn't after it, and none is before itself
not_after : (x y : Bytes) → is_before x y ≡ true → is_before y x ≡ false
not_after x y h = by (slice_cmp nat_cmp x y) refl
  where
    by : (o : Ordering) → slice_cmp nat_cmp x y ≡ o → is_before y x ≡ false
    by Less e = ap is_lt (nat_list_cmp_total.antisymm y x ∙ ap ordering_reverse e)
    by Equal e = let clash : true ≡ false = sym h ∙ ap is_lt e in absurd cc
    by Greater e = let clash : true ≡ false = sym h ∙ ap is_lt e in absurd cc

not_itself : (x : Bytes) → is_before x x ≡ false
not_itself x = by (slice_cmp nat_cmp x x) refl
  where
    by : (o : Ordering) → slice_cmp nat_cmp x x ≡ o → is_before x x ≡ false
    by Less e = let clash : Less ≡ Greater = sym e ∙ nat_list_cmp_total.antisymm x x ∙ ap ordering_reverse e in absurd cc
    by Equal e = ap is_lt e
    by Greater e = ap is_lt e

is_less : (o : Ordering) → is_lt o ≡ true → o ≡ Less
is_less Less h = refl
is_less Equal h = cc
is_less Greater h = cc

before-then : (x y z : Bytes) → is_before x y ≡ true → is_before y z ≡ true → is_before x z ≡ true
before-then x y z h k = ap is_lt (nat_list_cmp_total.trans x y z (is_less (slice_cmp nat_cmp x y) h) (is_less (slice_cmp nat_cmp y z) k))

-- the first key is before all others
rises-all : (r : CachedResult) (results : List CachedResult) → rises (r ∷ results) ≡ true → (s : CachedResult) → Contains results s → is_before r.key s.key ≡ true
rises-all r [] h s c = absurd (omega (arith, c.1))
rises-all r (q ∷ results) h s c =
    let parts = rises-first r q results h in
    elim (first_or_later q s results c) [
      | inl same ↦ ap (λ (t : CachedResult). is_before r.key t.key) (sym same) ∙ parts.0
      | inr later ↦ before-then r.key q.key s.key parts.0 (rises-all q results parts.1 s later)
    ]

module _ (digest_of : Bytes → Bytes) (place : Place) where
  abbrev There : CachedResult → Bool
  There r = are_there place digest_of r.includes

  abbrev own : CachedResult → Option CachedResult
  own r = cond (There r) (Some r) None

  last-cons : (r : CachedResult) (results : List CachedResult) → find There (reverse (r ∷ results)) ≡ option_or (find There (reverse results)) (own r)
  last-cons r results = ap (find There) (reverse-append (r ∷ []) results) ∙ find-append There (reverse results) (r ∷ [])

  greatest_of : (results : List CachedResult) → rises results ≡ true → (o : CachedResult) → find There (reverse results) ≡ Some o
      → (q : CachedResult) → Contains results q → There q ≡ true → is_before o.key q.key ≡ false
  greatest_of [] up o e q c there = absurd (omega (arith, c.1))
  greatest_of (r ∷ results) up o e q c there = by (λ is later. greatest_of results (rises-rest r results up) o is q later there) (find There (reverse results)) refl
    where
      by : (find There (reverse results) ≡ Some o → Contains results q → is_before o.key q.key ≡ false)
          → (f : Option CachedResult) → find There (reverse results) ≡ f → is_before o.key q.key ≡ false
      by deeper (Some k) is =
          let same : k ≡ o = some_is k o (sym (last-cons r results ∙ ap (λ (f : Option CachedResult). option_or f (own r)) is) ∙ e) in
          elim (first_or_later r q results c) [
            | inl first ↦
                let found = find_some There (reverse results) k is in
                let among : Contains results k = Contains-permutation (reverse results) results k (subst (IsPermutation (reverse results)) (reverse-reverse results) (IsPermutation-reverse (reverse results))) found.0 in
                not_after q.key o.key (ap (λ (t : CachedResult). is_before t.key o.key) (sym first) ∙ ap (λ (t : CachedResult). is_before r.key t.key) (sym same) ∙ rises-all r results up k among)
            | inr later ↦ deeper (is ∙ ap (λ (t : CachedResult). Some t) same) later
          ]
      by deeper None is =
          let mine : own r ≡ Some o = sym (last-cons r results ∙ ap (λ (f : Option CachedResult). option_or f (own r)) is) ∙ e in
          elim (first_or_later r q results c) [
            | inl first ↦
                let here : There r ≡ true = ap There first ∙ there in
                let same : r ≡ o = some_is r o (sym (ap (λ (b : Bool). cond b (Some r) None) here) ∙ mine) in
                ap (λ (t : CachedResult). is_before t.key q.key) (sym same) ∙ ap (λ (t : CachedResult). is_before t.key q.key) first ∙ not_itself q.key
            | inr later ↦
                let gone = find_none There (reverse results) is q (Contains-permutation results (reverse results) q (IsPermutation-reverse results) later) in
                let clash : true ≡ false = sym there ∙ gone in
                absurd cc
          ]

  pub last_there-greatest : (results : List CachedResult) → rises results ≡ true → (key : Option Bytes) → key ≡ last_there digest_of place results → IfSome key (NoneAbove digest_of place results)
  last_there-greatest results up key is = subst (λ (k : Option Bytes). IfSome k (NoneAbove digest_of place results)) (sym is) (by (find There (reverse results)) refl)
    where
      by : (o : Option CachedResult) → find There (reverse results) ≡ o → IfSome (option_map (λ r. r.key) o) (NoneAbove digest_of place results)
      by None e = tt
      by (Some r) e = greatest_of results up r e
