-- Where a text holds a word.
use Rattle.std.proofs.Common.{◌≡◌, ℕ, zero, suc, ◌+◌, ◌≤◌, Bool, true, false, ◌||◌, nat_eq, [], ◌∷◌, length, take, length-take, Option, None, Some, refl, ap, sym, arith, suc-add}
use Rattle.std.specs.List.{starts_with}
use Rattle.std.specs.Option.{is_some}
use Rattle.std.proofs.lemmas.Slice.Eq.{bytes_eq-Decides}
use Rattle.memchr.specs.Find.{OccursAt, FindsNeedle}
use Rattle.memchr.proofs.lemmas.MatchLemmas.{OccursAt-part, OccursAt-from_part}
use Rattle.base_files.specs.Bytes.{Bytes}
use Rattle.sccache_script_tool.specs.Texts.{holds}

or_true : (a : Bool) {b : Bool} → b ≡ true → a || b ≡ true
or_true true h = refl
or_true false h = h

module _ (word : Bytes) where
  -- what begins a text is at its start
  begins : (text : Bytes) → starts_with nat_eq text word ≡ true → OccursAt text word 0
  begins text h =
      let same = (bytes_eq-Decides word (take (length word) text)).0 h in
      let fits : 0 + length word ≤ length text = omega (arith, ap length same, length-take (length word) text) in
      OccursAt-from_part text word 0 fits (sym same)

  begun : (text : Bytes) → OccursAt text word 0 → starts_with nat_eq text word ≡ true
  begun text stands = (bytes_eq-Decides word (take (length word) text)).1 (sym (OccursAt-part text word 0 stands))

  -- a byte more in front of the text
  further : (b : ℕ) (text : Bytes) (k : ℕ) → OccursAt text word k → OccursAt (b ∷ text) word (suc k)
  further b text k stands = record { fits = omega (arith, stands.fits); reads = λ j l. rw suc-add (stands.reads j l) }

  nearer : (b : ℕ) (text : Bytes) (k : ℕ) → OccursAt (b ∷ text) word (suc k) → OccursAt text word k
  nearer b text k stands = record { fits = omega (arith, stands.fits); reads = λ j l. simp suc-add at (stands.reads j l) }

  held : (text : Bytes) (k : ℕ) → OccursAt text word k → holds word text ≡ true
  held [] zero stands = begun [] stands
  held [] (suc k) stands = absurd (omega (arith, stands.fits))
  held (b ∷ text) zero stands = rw (begun (b ∷ text) stands) refl
  held (b ∷ text) (suc k) stands = or_true (starts_with nat_eq (b ∷ text) word) (held text k (nearer b text k stands))

  place_in : (b : ℕ) (text : Bytes) (begin : Bool) → starts_with nat_eq (b ∷ text) word ≡ begin → begin || holds word text ≡ true → (holds word text ≡ true → (k : ℕ) × OccursAt text word k) → (k : ℕ) × OccursAt (b ∷ text) word k
  place_in b text true q h rest = (0, begins (b ∷ text) q)
  place_in b text false q h rest = let later = rest h in (suc later.0, further b text later.0 later.1)

  place_of : (text : Bytes) → holds word text ≡ true → (k : ℕ) × OccursAt text word k
  place_of [] h = (0, begins [] h)
  place_of (b ∷ text) h = place_in b text (starts_with nat_eq (b ∷ text) word) refl h (place_of text)

  -- a search finds the word where the text holds it
  pub found_in : (text : Bytes) (place : Option ℕ) → FindsNeedle text word 0 place → is_some place ≡ holds word text
  found_in text None nowhere = by (holds word text) refl
    where
      by : (b : Bool) → holds word text ≡ b → false ≡ holds word text
      by true q = let place = place_of text q in absurd (nowhere place.0 (omega arith) (omega (arith, place.1.fits)) place.1)
      by false q = sym q
  found_in text (Some k) first = sym (held text k first.1)
