-- Whole values, read and written, with the digest of their bytes at the end.
use Rattle.std.proofs.Common.{◌≡◌, ℕ, zero, suc, ◌+◌, true, false, cond, eqb, [], ◌∷◌, ◌++◌, length, take, drop, Some, None, refl, sym, ap, subst, ◌∙◌, arith}
use Rattle.std.specs.Cmp.Lexicographic.{pointwise}
use Rattle.std.specs.Prelude.{Bool, not, nat_eq}
use Rattle.std.proofs.lemmas.Bool.{and_from, and_parts, eqb-true, eq-eqb, not-false, not_from_true}
use Rattle.std.proofs.lemmas.List.{append-nil, drop_at, length-append, nil_from_length, take-append-drop, take_at}
use Rattle.base_files.specs.Bytes.{Bytes}
use Rattle.base_formats.specs.FieldFormats.{bind_some, if_some, some_is}
use Rattle.base_formats.specs.Formats.{IsBytes, IsFormat}
use Rattle.base_formats.specs.Reading.{Read}
use Rattle.cache_format.specs.Sealed.{fields_at, sealed_bytes, versioned_bytes, whole_at}

front_is_bytes : (n : ℕ) (bytes : Bytes) → IsBytes bytes → IsBytes (take n bytes)
front_is_bytes zero bytes h i = omega arith
front_is_bytes (suc n) [] h i = omega arith
front_is_bytes (suc n) (b ∷ bytes) h zero = h zero
front_is_bytes (suc n) (b ∷ bytes) h (suc i) = front_is_bytes n bytes (λ j. h (suc j)) i

bytes_are : (xs ys : Bytes) → pointwise nat_eq xs ys ≡ true → xs ≡ ys
bytes_are [] [] h = refl
bytes_are [] (y ∷ ys) h = cc
bytes_are (x ∷ xs) [] h = cc
bytes_are (x ∷ xs) (y ∷ ys) h =
    let p = and_parts (nat_eq x y) (pointwise nat_eq xs ys) h in
    let head = eqb-true x y p.0 in
    let tail = bytes_are xs ys p.1 in
    λ i. head i ∷ tail i

bytes_own : (xs : Bytes) → pointwise nat_eq xs xs ≡ true
bytes_own [] = refl
bytes_own (x ∷ xs) = and_from (nat_eq x x) (pointwise nat_eq xs xs) (eq-eqb x x refl) (bytes_own xs)

-- what a test for a difference says of two texts where it finds none, and where it finds one
pub untold : (xs ys : Bytes) (t : Bool) → t ≡ not (pointwise nat_eq xs ys) → t ≡ false → xs ≡ ys
untold xs ys t is h = bytes_are xs ys (not-false (pointwise nat_eq xs ys) (sym is ∙ h))

pub told : (xs ys : Bytes) (t : Bool) → t ≡ not (pointwise nat_eq xs ys) → t ≡ true → xs ≡ ys → ⊥
told xs ys t is h same =
    let alike : pointwise nat_eq xs ys ≡ true = ap (λ (z : Bytes). pointwise nat_eq xs z) (sym same) ∙ bytes_own xs in
    let no_test : true ≡ false = sym h ∙ is ∙ not_from_true (pointwise nat_eq xs ys) alike in
    cc

-- the version and the value are put, and then their digest
pub put_sealed : (digest_of : Bytes → Bytes) (version : ℕ) (spelled start begun put lent digest end whole : Bytes) → start ≡ [] → begun ≡ start ++ version ∷ [] → put ≡ begun ++ spelled → lent ≡ put → digest ≡ digest_of lent → end ≡ digest → whole ≡ put ++ end → whole ≡ (version ∷ spelled) ++ digest_of (version ∷ spelled)
put_sealed digest_of version spelled start begun put lent digest end whole none first added lends is ends all =
    let p : put ≡ version ∷ spelled = added ∙ ap (λ (s : Bytes). s ++ spelled) (first ∙ ap (λ (s : Bytes). s ++ version ∷ []) none) in
    all ∙ ap (λ (x : Bytes). put ++ x) (ends ∙ is ∙ ap digest_of (lends ∙ p)) ∙ ap (λ (x : Bytes). x ++ digest_of (version ∷ spelled)) p

module _ {X : Type 0} (reads : Bytes → Read X) (spells : X → Bytes) (Fits : X → Type 0) (format : IsFormat reads spells Fits) (version : ℕ) where
  fields_takes : (bytes : Bytes) (x : X) → IsBytes bytes → fields_at reads bytes ≡ Some x → Fits x × (bytes ≡ spells x)
  unfolding fields_at
  fields_takes bytes x fits h =
      let b = bind_some (reads bytes) (λ r. cond (eqb (length r.1) 0) (Some r.0) None) x h in
      let g = if_some (eqb (length b.0.1) 0) (Some b.0.0) x b.2 in
      let t = format.takes bytes b.0 fits b.1 in
      let none : b.0.1 ≡ [] = nil_from_length b.0.1 (eqb-true _ _ g.0) in
      let whole : bytes ≡ spells b.0.0 = t.0.parts ∙ ap (λ (r : Bytes). spells b.0.0 ++ r) none ∙ append-nil (spells b.0.0) in
      subst (λ (v : X). Fits v × (bytes ≡ spells v)) (some_is b.0.0 x g.1) (t.1, whole)

  fields_again : (x : X) → Fits x → fields_at reads (spells x) ≡ Some x
  unfolding fields_at
  fields_again x fits =
      let read : reads (spells x) ≡ Some (x, []) = ap reads (sym (append-nil (spells x))) ∙ format.again x [] fits in
      rw read refl

  whole_takes : (bytes : Bytes) (x : X) → IsBytes bytes → whole_at version reads bytes ≡ Some x → Fits x × (bytes ≡ versioned_bytes version spells x)
  unfolding whole_at
  whole_takes [] x fits h = absurd cc
  whole_takes (b ∷ bytes) x fits h =
      let g = if_some (eqb b version) (fields_at reads bytes) x h in
      let t = fields_takes bytes x (λ i. fits (suc i)) g.1 in
      let first : b ≡ version = eqb-true _ _ g.0 in
      (t.0, λ i. first i ∷ t.1 i)

  whole_again : (x : X) → Fits x → whole_at version reads (versioned_bytes version spells x) ≡ Some x
  unfolding whole_at
  whole_again x fits = ap (λ (t : Bool). cond t (fields_at reads (spells x)) None) (eq-eqb version version refl) ∙ fields_again x fits

  module _ (digest_of : Bytes → Bytes) (len : ℕ) (digests : (bytes : Bytes) → length (digest_of bytes) ≡ len) (bytes front end : Bytes) (n : ℕ) (at : n + len ≡ length bytes) (front_is : front ≡ take n bytes) (end_is : end ≡ drop n bytes) where
    -- bytes that end with the digest of a versioned value are its bytes
    pub sealed : (x : X) → IsBytes bytes → whole_at version reads front ≡ Some x → digest_of front ≡ end → Fits x × (bytes ≡ sealed_bytes digest_of version spells x)
    sealed x fits h same =
        let t = whole_takes front x (subst IsBytes (sym front_is) (front_is_bytes n bytes fits)) h in
        let parts : bytes ≡ front ++ end = sym (take-append-drop n bytes) ∙ ap (λ (y : Bytes). y ++ drop n bytes) (sym front_is) ∙ ap (λ (y : Bytes). front ++ y) (sym end_is) in
        (t.0, parts ∙ ap (λ (y : Bytes). front ++ y) (sym same) ∙ ap (λ (y : Bytes). y ++ digest_of y) t.1)

    -- a sealed value's bytes are the versioned value and its digest
    pub unsealed : (x : X) → bytes ≡ sealed_bytes digest_of version spells x → (front ≡ versioned_bytes version spells x) × (end ≡ digest_of front)
    unsealed x is =
        let whole = versioned_bytes version spells x in
        let long : n ≡ length whole = omega (arith, at, ap length is, length-append whole (digest_of whole), digests whole) in
        let first : front ≡ whole = front_is ∙ ap (take n) is ∙ take_at whole (digest_of whole) n (sym long) in
        (first, end_is ∙ ap (drop n) is ∙ drop_at whole (digest_of whole) n (sym long) ∙ ap digest_of (sym first))

    pub only_this : (x found : X) → Fits x → bytes ≡ sealed_bytes digest_of version spells x → whole_at version reads front ≡ Some found → found ≡ x
    only_this x found fits is h = some_is found x (sym h ∙ ap (whole_at version reads) (unsealed x is).0 ∙ whole_again x fits)

    pub not_none : (x : X) → Fits x → bytes ≡ sealed_bytes digest_of version spells x → whole_at version reads front ≡ None → ⊥
    not_none x fits is h =
        let clash : None ≡ Some x = sym h ∙ (ap (whole_at version reads) (unsealed x is).0 ∙ whole_again x fits) in
        absurd cc
