-- Files that are looked at, and results that are looked up.
use Rattle.std.proofs.Common.{◌≡◌, ℕ, ◌+◌, ◌<◌, Bool, true, false, cond, List, [], ◌∷◌, ◌++◌, length, get_or, take, drop, reverse, Option, Some, None, refl, sym, ap, subst, ◌∙◌, arith, append_assoc, inl, inr, ◌⊎◌}
use Rattle.std.specs.Prelude.{◌&&◌}
use Rattle.std.specs.List.{Contains, find}
use Rattle.std.specs.List.Sorted.{IsPermutation}
use Rattle.std.specs.Option.{option_map}
use Rattle.std.proofs.lemmas.List.{drop_more, reverse-append, reverse-reverse, take_more}
use Rattle.std.proofs.lemmas.List.Elements.{Contains-append_left, Contains-append_right, Contains-append_cases, Contains-push, Contains-push_cases}
use Rattle.std.proofs.lemmas.List.Sorted.{Contains-permutation, IsPermutation-reverse}
use Rattle.base_files.specs.Bytes.{Bytes}
use Rattle.base_files.specs.Tree.{contents_at}
use Rattle.base_formats.specs.FieldFormats.{some_is}
use Rattle.ckeys_include_records.specs.LookUps.{LooksUp, last_there}
use Rattle.ckeys_include_records.specs.Sightings.{fits_seen, seen_at, seen_with}
use Rattle.ckeys_include_records.specs.Surroundings.{Place, are_there, fits_contents, in_front, included, includes_of, is_there, path_at}
use Rattle.ckeys_include_records.specs.declared.entry.CachedResult.{CachedResult}
use Rattle.ckeys_include_records.specs.declared.entry.IncludeEntry.{IncludeEntry}

module _ (digest_of : Bytes → Bytes) (place : Place) where
  -- what is seen of a file determines whether it's there
  pub seen-is_there : (i : IncludeEntry) → fits_seen place.day i (seen_at digest_of place i.path) ≡ is_there place digest_of i
  seen-is_there i = by (contents_at place.files (path_at place i.path))
    where
      by : (o : Option Bytes) → fits_seen place.day i (option_map (seen_with digest_of place i.path) o) ≡ fits_contents place digest_of i o
      by None = refl
      by (Some contents) = refl

  -- a file that is there leaves the others
  pub are_there-rest : (includes : List IncludeEntry) (at : ℕ) (i : IncludeEntry) → at < length includes → i ≡ get_or includes at i → is_there place digest_of i ≡ true
      → are_there place digest_of (drop (at + 1) includes) ≡ are_there place digest_of (drop at includes)
  are_there-rest includes at i lt is there =
      let left : drop at includes ≡ i ∷ drop (at + 1) includes = drop_more includes at i lt ∙ ap (λ (x : IncludeEntry). x ∷ drop (at + 1) includes) (sym is) in
      sym (ap (are_there place digest_of) left ∙ ap (λ (b : Bool). b && are_there place digest_of (drop (at + 1) includes)) there)

  -- the last result comes first
  pub last_there-push : (results : List CachedResult) (r : CachedResult) → last_there digest_of place (results ++ r ∷ []) ≡ cond (are_there place digest_of r.includes) (Some r.key) (last_there digest_of place results)
  last_there-push results r =
      ap (λ (l : List CachedResult). option_map (λ (q : CachedResult). q.key) (find (λ (q : CachedResult). are_there place digest_of q.includes) l)) (reverse-append results (r ∷ []))
      ∙ by (are_there place digest_of r.includes) refl
    where
      rest : Option CachedResult
      rest = find (λ (q : CachedResult). are_there place digest_of q.includes) (reverse results)

      by : (b : Bool) → are_there place digest_of r.includes ≡ b → option_map (λ (q : CachedResult). q.key) (cond (are_there place digest_of r.includes) (Some r) rest) ≡ cond (are_there place digest_of r.includes) (Some r.key) (option_map (λ (q : CachedResult). q.key) rest)
      by true e = rw e refl
      by false e = rw e refl

  module _ (results : List CachedResult) (at : ℕ) (r : CachedResult) (lt : at < length results) (is : r ≡ get_or results at r) where
    one_more : last_there digest_of place (take (at + 1) results) ≡ cond (are_there place digest_of r.includes) (Some r.key) (last_there digest_of place (take at results))
    one_more =
        ap (last_there digest_of place) (take_more results at r lt ∙ ap (λ (q : CachedResult). take at results ++ q ∷ []) (sym is))
        ∙ last_there-push (take at results) r

    pub last_there-before : are_there place digest_of r.includes ≡ false → last_there digest_of place (take (at + 1) results) ≡ last_there digest_of place (take at results)
    last_there-before gone = one_more ∙ ap (λ (b : Bool). cond b (Some r.key) (last_there digest_of place (take at results))) gone

-- what is found is among the items and passes, and where nothing is found none does
pub first_or_later : {X : Type 0} (x y : X) (xs : List X) → Contains (x ∷ xs) y → (x ≡ y) ⊎ Contains xs y
first_or_later x y xs c = elim (Contains-append_cases (x ∷ []) xs y c) [
  | inl first ↦ elim (Contains-push_cases [] x y first) [
    | inl none ↦ absurd (omega (arith, none.1))
    | inr same ↦ inl same
  ]
  | inr rest ↦ inr rest
]

pub find_none : {X : Type 0} (p : X → Bool) (xs : List X) → find p xs ≡ None → (x : X) → Contains xs x → p x ≡ false
find_none p [] h x c = absurd (omega (arith, c.1))
find_none {X} p (y ∷ xs) h x c = by (λ rest among. find_none p xs rest x among) (p y) refl
  where
    by : (find p xs ≡ None → Contains xs x → p x ≡ false) → (b : Bool) → p y ≡ b → p x ≡ false
    by deeper true e = let clash : Some y ≡ None = sym (rw e refl) ∙ h in absurd cc
    by deeper false e = elim (first_or_later y x xs c) [
      | inl same ↦ ap p (sym same) ∙ e
      | inr later ↦ deeper (rw e at h) later
    ]

pub find_some : {X : Type 0} (p : X → Bool) (xs : List X) (x : X) → find p xs ≡ Some x → Contains xs x × (p x ≡ true)
find_some p [] x h = absurd cc
find_some {X} p (y ∷ xs) x h = by (λ rest. find_some p xs x rest) (p y) refl
  where
    by : (find p xs ≡ Some x → Contains xs x × (p x ≡ true)) → (b : Bool) → p y ≡ b → Contains (y ∷ xs) x × (p x ≡ true)
    by deeper true e =
        let same : y ≡ x = some_is y x (sym (rw e refl) ∙ h) in
        (subst (Contains (y ∷ xs)) same (Contains-append_left (y ∷ []) xs y (Contains-push [] y)), ap p (sym same) ∙ e)
    by deeper false e = let rest = deeper (rw e at h) in (Contains-append_right (y ∷ []) xs x rest.0, rest.1)

-- the last that is there is one that is there
pub last_there-looks_up : (digest_of : Bytes → Bytes) (place : Place) (results : List CachedResult) (key : Option Bytes) → key ≡ last_there digest_of place results → LooksUp digest_of place results key
last_there-looks_up digest_of place results key is = subst (LooksUp digest_of place results) (sym is) (by (find (λ (r : CachedResult). are_there place digest_of r.includes) (reverse results)) refl)
  where
    by : (o : Option CachedResult) → find (λ (r : CachedResult). are_there place digest_of r.includes) (reverse results) ≡ o → LooksUp digest_of place results (option_map (λ (r : CachedResult). r.key) o)
    by None e = λ r c. find_none (λ (r : CachedResult). are_there place digest_of r.includes) (reverse results) e r (Contains-permutation results (reverse results) r (IsPermutation-reverse results) c)
    by (Some r) e =
        let found = find_some (λ (r : CachedResult). are_there place digest_of r.includes) (reverse results) r e in
        (r, Contains-permutation (reverse results) results r (subst (IsPermutation (reverse results)) (reverse-reverse results) (IsPermutation-reverse (reverse results))) found.0, refl, found.1)

-- include lists
option_map-after : (front : List IncludeEntry) (i : IncludeEntry) (o : Option (List IncludeEntry)) → option_map (λ rest. front ++ rest) (option_map (λ rest. i ∷ rest) o) ≡ option_map (λ rest. (front ++ i ∷ []) ++ rest) o
option_map-after front i None = refl
option_map-after front i (Some rest) = ap (λ (l : List IncludeEntry). Some l) (sym (append_assoc front (i ∷ []) rest))

module _ (digest_of : Bytes → Bytes) (place : Place) (name : Bytes) (names : List Bytes) where
  abbrev pub Recorded : Option IncludeEntry → Type 0
  Recorded found = found ≡ included place digest_of name (contents_at place.files (path_at place name))

  pub includes_of-goes_on : (front : List IncludeEntry) (i : IncludeEntry) → Recorded (Some i) → option_map (λ rest. (front ++ i ∷ []) ++ rest) (includes_of place digest_of names) ≡ option_map (λ rest. front ++ rest) (includes_of place digest_of (name ∷ names))
  includes_of-goes_on front i is = sym (ap (λ (o : Option IncludeEntry). option_map (λ rest. front ++ rest) (in_front place digest_of o (includes_of place digest_of names))) (sym is) ∙ option_map-after front i (includes_of place digest_of names))
