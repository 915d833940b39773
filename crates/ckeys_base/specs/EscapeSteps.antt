-- A text with escapes, read from the left.
use Rattle.std.specs.Prelude.{ℕ, ◌+◌, ◌*◌, ◌==◌, ◌&&◌, if◌then◌else◌, [], ◌∷◌, Option, Some, None}
use Rattle.std.specs.Option.{option_map}
use Rattle.std.specs.Char.{digit_value, is_digit}
use Rattle.std.specs.Char.Escape.{backslash}
use Rattle.std.specs.Str.{byte}
use Rattle.base_files.specs.Bytes.{Bytes}
use Rattle.ckeys_base.specs.Escapes.{meaning}

-- the byte of the two hexadecimal digits that a text begins with, and the text after them
abbrev pub two_digits : Bytes → Option (ℕ × Bytes)
two_digits [] = None
two_digits (high ∷ []) = None
two_digits (high ∷ low ∷ rest) = if is_digit high 16 && is_digit low 16 then Some (digit_value high * 16 + digit_value low, rest) else None

-- the byte that an escape spells after its backslash, and the text after that
abbrev pub after_backslash : Bytes → Option (ℕ × Bytes)
after_backslash [] = None
after_backslash (letter ∷ rest) = if letter == byte "x" then two_digits rest else option_map (λ b. (b, rest)) (meaning letter)

-- the byte that a text spells first, and the text after that
abbrev pub first_spelled : Bytes → Option (ℕ × Bytes)
first_spelled [] = None
first_spelled (b ∷ rest) = if b == backslash then after_backslash rest else Some (b, rest)
