-- Hexadecimal text, the low half of each byte first.
use Rattle.std.specs.Prelude.{ℕ, ◌+◌, ◌-◌, ◌/◌, ◌%◌, ◌<◌, nat_lt, List, [], ◌∷◌, if◌then◌else◌}
use Rattle.std.specs.List.{All, flat_map}
use Rattle.std.specs.Str.{byte}
use Rattle.base_files.specs.Bytes.{Bytes}

-- numbers that fit a byte
abbrev pub AreBytes : Bytes → Type 0
AreBytes bytes = All (λ b. b < 256) bytes

-- the digit of a number below 16
abbrev pub digit_of : ℕ → ℕ
digit_of n = if nat_lt n 10 then byte "0" + n else byte "a" + (n - 10)

-- the two digits of a byte
abbrev pub digits_of : ℕ → List ℕ
digits_of b = digit_of (b % 16) ∷ digit_of (b / 16) ∷ []

-- the text of some bytes
abbrev pub hex_of : Bytes → Bytes
hex_of bytes = flat_map digits_of bytes
