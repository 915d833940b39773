-- Fields read from the left.
use Rattle.std.specs.Prelude.{◌≡◌, ℕ, ℤ, zero, suc, nat_lt, List, [], ◌∷◌, length, take, drop, Option, Some, None, Result, Ok, Err, if◌then◌else◌}
use Rattle.std.specs.Int.{w64, from_le_bytes, cast_signed}
use Rattle.std.specs.Str.{is_utf8}
use Rattle.base_files.specs.Bytes.{Bytes}
use Rattle.base_formats.specs.declared.fault.ReadFault.{ReadFault}
use Rattle.base_formats.specs.declared.fault.ReadFault.TheVariants as faults

-- a value, and the bytes after it
abbrev pub Read : Type 0 → Type 0
Read A = Option (A × Bytes)

infixl 10 ◌>>=◌
abbrev pub ◌>>=◌ : {A B : Type 0} → Option A → (A → Option B) → Option B
None >>= f = None
(Some x) >>= f = f x

unfoldable pub number_at : Bytes → Read ℕ
number_at bytes = if nat_lt (length bytes) 8 then None else Some (from_le_bytes w64 (take 8 bytes), drop 8 bytes)

unfoldable pub signed_at : Bytes → Read ℤ
signed_at bytes = do
  n ← number_at bytes
  Some (cast_signed w64 n.0, n.1)

-- so many bytes
unfoldable pub taken_at : ℕ → Bytes → Read Bytes
taken_at n bytes = if nat_lt (length bytes) n then None else Some (take n bytes, drop n bytes)

unfoldable pub framed_at : Bytes → Read Bytes
framed_at bytes = do
  n ← number_at bytes
  taken_at n.0 n.1

-- length-prefixed bytes that are UTF-8
unfoldable pub text_at : Bytes → Read Bytes
text_at bytes = do
  text ← framed_at bytes
  if is_utf8 text.0 then Some text else None

-- one field, and then the other
unfoldable pub both_at : {X Y : Type 0} → (Bytes → Read X) → (Bytes → Read Y) → Bytes → Read (X × Y)
both_at one other bytes = do
  x ← one bytes
  y ← other x.1
  Some ((x.0, y.0), y.1)

-- what is made of a field
unfoldable pub made_at : {X Y : Type 0} → (X → Y) → (Bytes → Read X) → Bytes → Read Y
made_at make one bytes = do
  x ← one bytes
  Some (make x.0, x.1)

-- the byte 0, or the byte 1 and the field after it
unfoldable pub optional_at : {X : Type 0} → (Bytes → Read X) → Bytes → Read (Option X)
optional_at one [] = None
optional_at one (zero ∷ rest) = Some (None, rest)
optional_at one (suc zero ∷ rest) = do
  x ← one rest
  Some (Some x.0, x.1)
optional_at one (suc (suc b) ∷ rest) = None

-- so many fields in a row
unfoldable pub times_at : {X : Type 0} → (Bytes → Read X) → ℕ → Bytes → Read (List X)
times_at one zero bytes = Some ([], bytes)
times_at one (suc n) bytes = do
  first ← one bytes
  others ← times_at one n first.1
  Some (first.0 ∷ others.0, others.1)

-- a count, and as many fields
unfoldable pub counted_at : {X : Type 0} → (Bytes → Read X) → Bytes → Read (List X)
counted_at one bytes = do
  n ← number_at bytes
  times_at one n.0 n.1

-- Memory was refused, or nothing is to be read.
abbrev pub Fails : {Y : Type 0} → ReadFault → Option Y → Type 0
Fails faults.Memory read = Unit {0}
Fails faults.Unfit read = read ≡ None

-- A result, as `view` shows it, is what is to be read, unless memory was refused.
abbrev pub Gives : {X Y : Type 0} → (X → Y) → Result X ReadFault → Option Y → Type 0
Gives view (Ok x) read = read ≡ Some (view x)
Gives view (Err fault) read = Fails fault read
