-- How fields are spelled, and which values fit their fields.
use Rattle.std.specs.Prelude.{ℕ, ℤ, ◌<◌, ◌^◌, List, [], ◌∷◌, ◌++◌, length, Option, None, Some, FitsSigned}
use Rattle.std.specs.Int.{w64, to_le_bytes, cast_unsigned}
use Rattle.std.specs.List.{flat_map, AllByRecursion}
use Rattle.std.specs.Str.{IsUtf8}
use Rattle.base_files.specs.Bytes.{Bytes}

-- a number in eight bytes, low byte first
abbrev pub number : ℕ → Bytes
number n = to_le_bytes w64 n

-- a signed number by its bits, as two's complement has them
abbrev pub signed : ℤ → Bytes
signed z = number (cast_unsigned w64 z)

-- bytes after their length
abbrev pub framed : Bytes → Bytes
framed bytes = number (length bytes) ++ bytes

-- parts in a row, each after its length
abbrev pub framed_all : List Bytes → Bytes
framed_all parts = flat_map framed parts

-- one field, and then the other
abbrev pub both : {X Y : Type 0} → (X → Bytes) → (Y → Bytes) → X × Y → Bytes
both one other pair = one pair.0 ++ other pair.1

-- the byte 0 for nothing, or the byte 1 and the field
abbrev pub optional : {X : Type 0} → (X → Bytes) → Option X → Bytes
optional one None = 0 ∷ []
optional one (Some x) = 1 ∷ one x

-- fields in a row after their count
abbrev pub counted : {X : Type 0} → (X → Bytes) → List X → Bytes
counted one xs = number (length xs) ++ flat_map one xs

abbrev pub FitsNumber : ℕ → Type 0
FitsNumber n = n < 2 ^ 64

abbrev pub FitsWord : ℤ → Type 0
FitsWord z = FitsSigned w64 z

abbrev pub FitsFrame : Bytes → Type 0
FitsFrame bytes = length bytes < 2 ^ 64

abbrev pub IsText : Bytes → Type 0
IsText bytes = IsUtf8 bytes × FitsFrame bytes

abbrev pub BothFit : {X Y : Type 0} → (X → Type 0) → (Y → Type 0) → X × Y → Type 0
BothFit P Q pair = P pair.0 × Q pair.1

abbrev pub IfFits : {X : Type 0} → (X → Type 0) → Option X → Type 0
IfFits P None = Unit {0}
IfFits P (Some x) = P x

abbrev pub CountFits : {X : Type 0} → (X → Type 0) → List X → Type 0
CountFits P xs = (length xs < 2 ^ 64) × AllByRecursion P xs
