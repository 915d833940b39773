-- Numbers that digits spell.
use Rattle.std.proofs.Common.{arith, ◌≡◌, ℕ, ◌+◌, ◌-◌, ◌*◌, ◌^◌, ◌≤◌, ◌<◌, suc, Bool, true, false, cond, List, [], ◌∷◌, length, Option, None, Some, refl, sym, ap, ◌∙◌}
use Rattle.std.specs.Prelude.{nat_lt}
use Rattle.std.specs.Option.{option_map, unwrap_or}
use Rattle.std.proofs.lemmas.Bool.{le-ltb, ltb-false}
use Rattle.cache_settings.specs.Values.{digit_in, digits_after, held, held_ahead, is_digit, number_in}

abbrev some_found : ℕ → List ℕ → Option (ℕ × List ℕ)
some_found number rest = Some (number, rest)

-- what is seen of what was found
pub none_seen : {X Y : Type 0} (view : X → Y) (o : Option X) (d : Option Y) → o ≡ None → option_map view o ≡ d → None ≡ d
none_seen view None d is e = e
none_seen view (Some x) d is e = cc

pub some_seen : {X Y : Type 0} (view : X → Y) (o : Option X) (x : X) (d : Option Y) → o ≡ Some x → option_map view o ≡ d → Some (view x) ≡ d
some_seen view o x d is e = ap (option_map view) (sym is) ∙ e

-- digits make a number no smaller
pub grows : (begun : ℕ) (text : List ℕ) → begun ≤ (digits_after begun text).0
grows begun [] = omega arith
grows begun (byte ∷ text) = by (is_digit byte) (grows (10 * begun + (byte - 48)) text)
  where
    by : (b : Bool) → 10 * begun + (byte - 48) ≤ (digits_after (10 * begun + (byte - 48)) text).0 → begun ≤ (cond b (digits_after (10 * begun + (byte - 48)) text) (begun, byte ∷ text)).0
    by false more = omega arith
    by true more = omega arith

-- and what comes after them is no longer
pub shortens : (begun : ℕ) (text : List ℕ) → length (digits_after begun text).1 ≤ length text
shortens begun [] = omega arith
shortens begun (byte ∷ text) = by (is_digit byte) (shortens (10 * begun + (byte - 48)) text)
  where
    by : (b : Bool) → length (digits_after (10 * begun + (byte - 48)) text).1 ≤ length text → length (cond b (digits_after (10 * begun + (byte - 48)) text) (begun, byte ∷ text)).1 ≤ suc (length text)
    by false less = omega arith
    by true less = omega arith

-- a number that 64 bits don't hold is none
pub too_great : (text : List ℕ) (found : ℕ × List ℕ) → found ≡ digits_after 0 text → 2 ^ 64 ≤ found.0 → None ≡ number_in text
too_great [] found is great = refl
too_great (byte ∷ text) found is great = by (is_digit byte)
  where
    none : None ≡ held_ahead (digits_after 0 (byte ∷ text))
    none = let over : nat_lt found.0 (2 ^ 64) ≡ false = le-ltb found.0 (2 ^ 64) great in ap (λ b. cond b (Some found) None) (sym over) ∙ ap held_ahead is

    by : (b : Bool) → None ≡ cond b (held_ahead (digits_after 0 (byte ∷ text))) None
    by true = none
    by false = refl

-- one more digit is appended to the number
pub one_more : (begun : ℕ) (text : List ℕ) (found : ℕ × List ℕ) → Some found ≡ digit_in text → digits_after begun text ≡ digits_after (10 * begun + found.0) found.1
one_more begun [] found is = cc
one_more begun (byte ∷ text) found is = by (is_digit byte) is
  where
    by : (b : Bool) → Some found ≡ cond b (some_found (byte - 48) text) None → cond b (digits_after (10 * begun + (byte - 48)) text) (begun, byte ∷ text) ≡ digits_after (10 * begun + found.0) found.1
    by true e = let same : ◌≡◌ {A = ℕ × List ℕ} (byte - 48, text) found = ap (λ (o : Option (ℕ × List ℕ)). unwrap_or o found) (sym e) in ap (λ (p : ℕ × List ℕ). digits_after (10 * begun + p.0) p.1) same
    by false e = cc

-- and where there is none it ends
pub no_more : (begun : ℕ) (text : List ℕ) → None ≡ digit_in text → ◌≡◌ {A = ℕ × List ℕ} (begun, text) (digits_after begun text)
no_more begun [] is = refl
no_more begun (byte ∷ text) is = by (is_digit byte) is
  where
    by : (b : Bool) → None ≡ cond b (some_found (byte - 48) text) None → ◌≡◌ {A = ℕ × List ℕ} (begun, byte ∷ text) (cond b (digits_after (10 * begun + (byte - 48)) text) (begun, byte ∷ text))
    by true e = cc
    by false e = refl

not_held : (number : ℕ) → None ≡ held number → 2 ^ 64 ≤ number
not_held number e = by (nat_lt number (2 ^ 64)) refl e
  where
    by : (b : Bool) → nat_lt number (2 ^ 64) ≡ b → None ≡ cond b (Some number) None → 2 ^ 64 ≤ number
    by true is h = cc
    by false is h = ltb-false number (2 ^ 64) is

fit : (number : ℕ) → number < 2 ^ 64 → nat_lt number (2 ^ 64) ≡ true
fit number h = by (nat_lt number (2 ^ 64)) refl
  where
    by : (b : Bool) → nat_lt number (2 ^ 64) ≡ b → b ≡ true
    by true is = refl
    by false is = let great : 2 ^ 64 ≤ number = ltb-false number (2 ^ 64) is in absurd (omega arith)

-- one more digit than 64 bits hold
pub too_great_after : (text rest : List ℕ) (begun : ℕ) (found : ℕ × List ℕ) → digits_after begun rest ≡ digits_after 0 text → Some found ≡ digit_in rest → None ≡ held (10 * begun + found.0) → None ≡ number_in text
too_great_after text rest begun found is digit none =
    let more = grows (10 * begun + found.0) found.1 in
    let great = not_held (10 * begun + found.0) none in
    too_great text (digits_after (10 * begun + found.0) found.1) (sym (one_more begun rest found digit) ∙ is) (omega arith)

-- where what comes after a text's digits is as long as the text, it has no digits
pub no_digits : (text : List ℕ) (number : ℕ) (rest : List ℕ) → ◌≡◌ {A = ℕ × List ℕ} (number, rest) (digits_after 0 text) → length rest ≡ length text → None ≡ number_in text
no_digits [] number rest is same = refl
no_digits (byte ∷ text) number rest is same = by (is_digit byte) refl
  where
    by : (b : Bool) → is_digit byte ≡ b → None ≡ cond b (held_ahead (digits_after 0 (byte ∷ text))) None
    by false e = refl
    by true e =
        let one : digits_after 0 (byte ∷ text) ≡ digits_after (10 * 0 + (byte - 48)) text = ap (λ b. cond b (digits_after (10 * 0 + (byte - 48)) text) (0, byte ∷ text)) e in
        let less = shortens (10 * 0 + (byte - 48)) text in
        let long : length rest ≡ length (digits_after (10 * 0 + (byte - 48)) text).1 = ap (λ (p : ℕ × List ℕ). length p.1) (is ∙ one) in
        absurd (omega arith)

-- and otherwise it has that number, where 64 bits hold it
pub some_digits : (text : List ℕ) (number : ℕ) (rest : List ℕ) → ◌≡◌ {A = ℕ × List ℕ} (number, rest) (digits_after 0 text) → (length rest ≡ length text → ⊥) → number < 2 ^ 64 → some_found number rest ≡ number_in text
some_digits [] number rest is fewer fits = absurd (fewer (ap (λ (p : ℕ × List ℕ). length p.1) is))
some_digits (byte ∷ text) number rest is fewer fits = by (is_digit byte) refl
  where
    told : some_found number rest ≡ held_ahead (digits_after 0 (byte ∷ text))
    told = ap (λ b. cond b (some_found number rest) None) (sym (fit number fits)) ∙ ap held_ahead is

    by : (b : Bool) → is_digit byte ≡ b → some_found number rest ≡ cond b (held_ahead (digits_after 0 (byte ∷ text))) None
    by true e = told
    by false e =
        let one : ◌≡◌ {A = ℕ × List ℕ} (digits_after 0 (byte ∷ text)) (0, byte ∷ text) = ap (λ b. cond b (digits_after (10 * 0 + (byte - 48)) text) (0, byte ∷ text)) e in
        absurd (fewer (ap (λ (p : ℕ × List ℕ). length p.1) (is ∙ one)))
