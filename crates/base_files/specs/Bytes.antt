-- Byte strings, and ticks that count modulo 2 ^ 64.
use Rattle.std.specs.Prelude.{ℕ, ◌+◌, ◌%◌, ◌^◌, List}

-- a byte string of the program as a plain list
abbrev pub Bytes : Type 0
Bytes = List ℕ

-- one more, modulo 2 ^ 64
abbrev pub ticked : ℕ → ℕ
ticked n = (n + 1) % 2 ^ 64
