-- Laws of the lines of a text.
use Rattle.std.proofs.Common.{◌≡◌, ℕ, zero, suc, ◌+◌, ◌-◌, ◌<◌, Bool, true, false, nat_eq, [], ◌∷◌, length, take, drop, Option, None, Some, MatchOption, refl, ap, ◌∙◌, arith, length-drop, take_all, drop_of_length-le, add-one}
use Rattle.std.specs.Option.{option_copied}
use Rattle.std.specs.Str.{bytes_eq}
use Rattle.memchr.specs.Find.{IsFirstByte, Passes, Nowhere, is_byte}
use Rattle.base_files.specs.Bytes.{Bytes}
use Rattle.sccache_script_tool.specs.Lines.{lines, ahead_of}
use denote.Ref.{Bor}

-- equal bytes are equal the other way round
bytes_eq-swap : (xs ys : Bytes) → bytes_eq xs ys ≡ bytes_eq ys xs
bytes_eq-swap [] [] = refl
bytes_eq-swap [] (y ∷ ys) = refl
bytes_eq-swap (x ∷ xs) [] = refl
bytes_eq-swap (x ∷ xs) (y ∷ ys) = grind (arith, bytes_eq-swap xs ys)

-- what `strip_suffix` gives is what comes before the ending
pub ahead_of_is : (ending text : Bytes) (r : Option (Bor Bytes))
    → MatchOption r (bytes_eq (drop (length text - length ending) text) ending ≡ false) (λ x. (bytes_eq (drop (length text - length ending) text) ending ≡ true) × (x.now ≡ take (length text - length ending) text) × (length x.now + length ending ≡ length text))
    → option_copied r ≡ ahead_of ending text
ahead_of_is ending text None h = rw (bytes_eq-swap ending (drop (length text - length ending) text), h) refl
ahead_of_is ending text (Some x) h = rw (bytes_eq-swap ending (drop (length text - length ending) text), h.0) (ap Some h.1)

not_true : (b : Bool) → (b ≡ true → ⊥) → b ≡ false
not_true b h = by b refl
  where
    by : (t : Bool) → b ≡ t → b ≡ false
    by true q = absurd (h q)
    by false q = q

-- there is no line end after the first byte
no_later : (b : ℕ) (text : Bytes) (k : ℕ) → Nowhere (Passes (is_byte 10) (b ∷ text)) 0 (suc k) → Nowhere (Passes (is_byte 10) text) 0 k
no_later b text k none i low high here = none (suc i) (omega arith) (omega arith) here

-- and the first byte is none
not_first : (b : ℕ) (text : Bytes) (k : ℕ) → Nowhere (Passes (is_byte 10) (b ∷ text)) 0 (suc k) → nat_eq b 10 ≡ false
not_first b text k none = not_true (nat_eq b 10) (λ here. none 0 (omega arith) (omega arith) here)

-- a line ends at the first line end
lines-first : (text : Bytes) (k : ℕ) → Nowhere (Passes (is_byte 10) text) 0 k → k < length text → Passes (is_byte 10) text k → lines text ≡ take (suc k) text ∷ lines (drop (suc k) text)
lines-first [] k none within here = absurd (omega arith)
lines-first (b ∷ text) zero none within here = rw here refl
lines-first (b ∷ text) (suc k) none within here =
    rw (not_first b text k none, lines-first text k (no_later b text k none) (omega arith) here) refl

-- a text without a line end is one line
lines-only : (b : ℕ) (text : Bytes) → Nowhere (Passes (is_byte 10) (b ∷ text)) 0 (suc (length text)) → lines (b ∷ text) ≡ (b ∷ text) ∷ []
lines-only b [] none = rw (not_first b [] 0 none) refl
lines-only b (c ∷ text) none =
    rw (not_first b (c ∷ text) (suc (length text)) none, lines-only c text (no_later b (c ∷ text) (suc (length text)) none)) refl

-- where the first line ends: after the first line end, or with the text
abbrev pub line_len : Bytes → Option ℕ → ℕ
line_len text None = length text
line_len text (Some place) = place + 1

-- the text is its first line and what comes after that
pub first_line : (text : Bytes) (place : Option ℕ) → IsFirstByte (is_byte 10) text place → 0 < length text → (end : ℕ) → end ≡ line_len text place → (line rest : Bytes) → line ≡ take end text → rest ≡ drop end text → (lines text ≡ line ∷ lines rest) × (length rest < length text)
first_line [] place first some end at line rest front back = absurd (omega arith)
first_line (b ∷ text) None first some end at line rest front back =
    let whole : take end (b ∷ text) ≡ b ∷ text = take_all end (b ∷ text) (omega arith) in
    let nothing : drop end (b ∷ text) ≡ [] = drop_of_length-le (b ∷ text) (omega arith) in
    (rw (front, back, whole, nothing) (lines-only b text first), rw (back, nothing) some)
first_line (b ∷ text) (Some place) first some end at line rest front back =
    let next : end ≡ suc place = at ∙ add-one place in
    (rw (front, back, next) (lines-first (b ∷ text) place first.0.before first.0.high first.1), rw (back, next) (omega (arith, length-drop place text)))
