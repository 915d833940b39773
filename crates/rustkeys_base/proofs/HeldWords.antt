-- Where a text holds a word.
use Rattle.std.proofs.Common.{◌≡◌, ℕ, zero, suc, Bool, true, false, ◌||◌, nat_eq, [], ◌∷◌, length, take, length-take, Option, None, Some, refl, ap, sym, arith, suc-add}
use Rattle.std.specs.List.{starts_with}
use Rattle.std.specs.Option.{is_some}
use Rattle.std.proofs.lemmas.Slice.Eq.{bytes_eq-Decides}
use Rattle.memchr.specs.Find.{OccursAt, FindsNeedle}
use Rattle.memchr.proofs.lemmas.MatchLemmas.{OccursAt-part, OccursAt-from_part}
use Rattle.base_files.specs.Bytes.{Bytes}
use Rattle.rustkeys_base.specs.Notification.{holds}

module _ (word : Bytes) where
  -- a text begins with the word exactly where it occurs at its start
  at_start : (text : Bytes) → starts_with nat_eq text word ≡ true → OccursAt text word 0
  at_start text h =
      let same = (bytes_eq-Decides word (take (length word) text)).0 h in
      OccursAt-from_part text word 0 (omega (arith, ap length same, length-take (length word) text)) (sym same)

  from_start : (text : Bytes) → OccursAt text word 0 → starts_with nat_eq text word ≡ true
  from_start text occurs = (bytes_eq-Decides word (take (length word) text)).1 (sym (OccursAt-part text word 0 occurs))

  -- an occurrence after the first byte is one in the rest
  after : (b : ℕ) (text : Bytes) (k : ℕ) → OccursAt text word k → OccursAt (b ∷ text) word (suc k)
  after b text k occurs = record { fits = omega (arith, occurs.fits); reads = λ j l. rw suc-add (occurs.reads j l) }

  in_rest : (b : ℕ) (text : Bytes) (k : ℕ) → OccursAt (b ∷ text) word (suc k) → OccursAt text word k
  in_rest b text k occurs = record { fits = omega (arith, occurs.fits); reads = λ j l. simp suc-add at (occurs.reads j l) }

  or_right : (a : Bool) {b : Bool} → b ≡ true → a || b ≡ true
  or_right true h = refl
  or_right false h = h

  holds-from_place : (text : Bytes) (k : ℕ) → OccursAt text word k → holds word text ≡ true
  holds-from_place [] zero occurs = from_start [] occurs
  holds-from_place [] (suc k) occurs = absurd (omega (arith, occurs.fits))
  holds-from_place (b ∷ text) zero occurs = rw (from_start (b ∷ text) occurs) refl
  holds-from_place (b ∷ text) (suc k) occurs = or_right (starts_with nat_eq (b ∷ text) word) (holds-from_place text k (in_rest b text k occurs))

  place_or : (b : ℕ) (text : Bytes) (starts : Bool) → starts_with nat_eq (b ∷ text) word ≡ starts → starts || holds word text ≡ true → (holds word text ≡ true → (k : ℕ) × OccursAt text word k) → (k : ℕ) × OccursAt (b ∷ text) word k
  place_or b text true q h later = (0, at_start (b ∷ text) q)
  place_or b text false q h later = let place = later h in (suc place.0, after b text place.0 place.1)

  place-from_holds : (text : Bytes) → holds word text ≡ true → (k : ℕ) × OccursAt text word k
  place-from_holds [] h = (0, at_start [] h)
  place-from_holds (b ∷ text) h = place_or b text (starts_with nat_eq (b ∷ text) word) refl h (place-from_holds text)

  -- a search finds the word where the text holds it
  pub is_some-found : (text : Bytes) (found : Option ℕ) → FindsNeedle text word 0 found → is_some found ≡ holds word text
  is_some-found text None nowhere = by (holds word text) refl
    where
      by : (b : Bool) → holds word text ≡ b → false ≡ holds word text
      by true q = let place = place-from_holds text q in absurd (nowhere place.0 (omega arith) (omega (arith, place.1.fits)) place.1)
      by false q = sym q
  is_some-found text (Some k) first = sym (holds-from_place text k first.1)
