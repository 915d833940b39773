-- Texts with escapes, and the bytes that they spell.
use Rattle.std.specs.Prelude.{◌≡◌, ℕ, ◌+◌, ◌*◌, ◌==◌, true, if◌then◌else◌, List, [], ◌∷◌, Option, Some, None}
use Rattle.std.specs.List.{AllZip, concat}
use Rattle.std.specs.Char.{digit_value, is_digit}
use Rattle.std.specs.Char.Escape.{backslash}
use Rattle.std.specs.Str.{byte}
use Rattle.base_files.specs.Bytes.{Bytes}

-- the byte that a backslash and this letter stand for
abbrev pub meaning : ℕ → Option ℕ
meaning letter =
    if letter == byte "t" then Some 9 else (if letter == byte "r" then Some 13 else (if letter == byte "n" then Some 10 else
    (if letter == byte "'" then Some 39 else (if letter == byte "\"" then Some 34 else (if letter == backslash then Some backslash else None)))))

-- a piece of a text that spells this byte
pub data Spells (piece : Bytes) (b : ℕ) : Type 0 where
  itself : (b ≡ backslash → ⊥) → piece ≡ b ∷ [] → Spells piece b
  by_letter : (letter : ℕ) → meaning letter ≡ Some b → piece ≡ backslash ∷ letter ∷ [] → Spells piece b
  by_digits : (high low : ℕ) → is_digit high 16 ≡ true → is_digit low 16 ≡ true → b ≡ digit_value high * 16 + digit_value low
      → piece ≡ backslash ∷ byte "x" ∷ high ∷ low ∷ [] → Spells piece b

-- the text is such pieces in a row, which spell these bytes
abbrev pub IsReading : Bytes → Bytes → Type 0
IsReading text plain = (pieces : List Bytes) × (text ≡ concat pieces) × AllZip Spells pieces plain
