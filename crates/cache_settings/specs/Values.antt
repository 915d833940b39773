-- What texts mean as truth values, as sizes and as ages.
use Rattle.std.specs.Prelude.{ℕ, ◌+◌, ◌-◌, ◌*◌, ◌^◌, ◌&&◌, nat_le, nat_lt, Bool, true, false, List, [], ◌∷◌, Option, Some, None, if◌then◌else◌, codes}
use Rattle.std.specs.List.{list_any}
use Rattle.std.specs.Option.{option_and_then}
use Rattle.std.specs.Str.{bytes_eq}

-- The text is one of these.
abbrev pub is_one_of : List ℕ → List (List ℕ) → Bool
is_one_of text words = list_any (λ word. bytes_eq text word) words

abbrev pub truth_in : List ℕ → Option Bool
truth_in text =
    if is_one_of text (codes "1" ∷ codes "yes" ∷ codes "true" ∷ codes "on" ∷ []) then Some true else
    if is_one_of text (codes "0" ∷ codes "no" ∷ codes "false" ∷ codes "off" ∷ []) then Some false else None

-- Bytes of a unit; none is the unit of "G".
abbrev pub unit_in : List ℕ → Option ℕ
unit_in text =
    if is_one_of text (codes "" ∷ codes "G" ∷ []) then Some (10 ^ 9) else
    if is_one_of text (codes "k" ∷ []) then Some (10 ^ 3) else
    if is_one_of text (codes "M" ∷ []) then Some (10 ^ 6) else
    if is_one_of text (codes "T" ∷ []) then Some (10 ^ 12) else
    if is_one_of text (codes "Ki" ∷ []) then Some (2 ^ 10) else
    if is_one_of text (codes "Mi" ∷ []) then Some (2 ^ 20) else
    if is_one_of text (codes "Gi" ∷ []) then Some (2 ^ 30) else
    if is_one_of text (codes "Ti" ∷ []) then Some (2 ^ 40) else None

-- Seconds of a unit of ages.
abbrev pub age_unit_in : List ℕ → Option ℕ
age_unit_in text =
    if is_one_of text (codes "s" ∷ []) then Some 1 else
    if is_one_of text (codes "m" ∷ []) then Some 60 else
    if is_one_of text (codes "h" ∷ []) then Some (60 * 60) else
    if is_one_of text (codes "d" ∷ []) then Some (24 * 60 * 60) else None

-- 48 is '0', and 57 is '9'.
abbrev pub is_digit : ℕ → Bool
is_digit byte = nat_le 48 byte && nat_le byte 57

-- The digit that begins a text, and what comes after it.
abbrev pub digit_in : List ℕ → Option (ℕ × List ℕ)
digit_in [] = None
digit_in (byte ∷ text) = if is_digit byte then Some (byte - 48, text) else None

-- The number that these digits spell when appended to the number begun so far, and what comes after them.
abbrev pub digits_after : ℕ → List ℕ → ℕ × List ℕ
digits_after begun [] = (begun, [])
digits_after begun (byte ∷ text) = if is_digit byte then digits_after (10 * begun + (byte - 48)) text else (begun, byte ∷ text)

-- A number that 64 bits hold.
abbrev pub held : ℕ → Option ℕ
held number = if nat_lt number (2 ^ 64) then Some number else None

-- A number that digits spell, and what comes after them, where 64 bits hold it.
abbrev pub held_ahead : ℕ × List ℕ → Option (ℕ × List ℕ)
held_ahead found = if nat_lt found.0 (2 ^ 64) then Some found else None

-- The number whose digits begin a text, and what comes after them.
abbrev pub number_in : List ℕ → Option (ℕ × List ℕ)
number_in [] = None
number_in (byte ∷ text) = if is_digit byte then held_ahead (digits_after 0 (byte ∷ text)) else None

-- A whole number followed by a unit.
abbrev pub measured : (List ℕ → Option ℕ) → List ℕ → Option ℕ
measured unit text = option_and_then (λ found. option_and_then (λ one. held (found.0 * one)) (unit found.1)) (number_in text)

-- Bytes: without a unit so many times 10 ^ 9.
abbrev pub size_in : List ℕ → Option ℕ
size_in text = measured unit_in text

-- Seconds.
abbrev pub age_in : List ℕ → Option ℕ
age_in text = measured age_unit_in text
