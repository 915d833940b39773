-- A span of time as text.
use Rattle.std.specs.Prelude.{ℕ, ◌+◌, ◌/◌, ◌%◌, [], ◌∷◌, ◌++◌, codes}
use Rattle.std.specs.Fmt.{decimal}
use Rattle.std.specs.Str.{byte}
use Rattle.base_files.specs.Bytes.{Bytes}

-- a number below a thousand with the zeros before it
abbrev pub three_digits : ℕ → Bytes
three_digits n = (byte "0" + n / 100) ∷ (byte "0" + n / 10 % 10) ∷ (byte "0" + n % 10) ∷ []

-- this many nanoseconds as seconds with three digits after the point
abbrev pub in_seconds : ℕ → Bytes
in_seconds nanoseconds =
    decimal (nanoseconds / 1_000_000_000) ++ (codes "." ++ (three_digits (nanoseconds % 1_000_000_000 / 1_000_000) ++ codes " s"))
