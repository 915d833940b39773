-- The grammar of markers: which lines name a file, and which can't be distinguished from such a line.
use Rattle.std.specs.Prelude.{◌≡◌, ◌<◌, ℕ, Bool, true, false, nat_le, ◌&&◌, [], ◌∷◌, ◌++◌, length, codes}
use Rattle.std.specs.List.{AllByRecursion}
use Rattle.base_files.specs.Bytes.{Bytes}
use Rattle.ckeys_marker_walk.specs.Spelling.{is_special, spelled}

-- bytes from the one to the other
abbrev pub is_within : ℕ → ℕ → ℕ → Bool
is_within low high b = nat_le low b && nat_le b high

abbrev pub is_space : ℕ → Bool
is_space b = is_within 32 32 b

abbrev pub is_digit : ℕ → Bool
is_digit b = is_within 48 57 b

-- one or more bytes that pass the test
pub record IsRunOf (test : ℕ → Bool) (bytes : Bytes) : Type 0 where
  pub some : 0 < length bytes
  pub each : AllByRecursion (λ b. test b ≡ true) bytes

-- how a marker begins: `#`, or `#line`
pub data Start : Type 0 where
  bare : Start
  worded : Start

abbrev pub start_text : Start → Bytes
start_text bare = codes "#"
start_text worded = codes "#line"

-- The line is such a start, spaces, a number, and then the rest.
pub record IsNumbered (start : Start) (line rest : Bytes) : Type 0 where
  pub spaces : Bytes
  pub digits : Bytes
  pub are_spaces : IsRunOf is_space spaces
  pub are_digits : IsRunOf is_digit digits
  pub whole : line ≡ start_text start ++ (spaces ++ (digits ++ rest))

-- The line is a marker of that name: after the number come spaces, the name in quotes, which are 34, and then anything.
pub record IsMarker (line name : Bytes) : Type 0 where
  pub start : Start
  pub gap : Bytes
  pub after : Bytes
  pub is_gap : IsRunOf is_space gap
  pub numbered : IsNumbered start line (gap ++ 34 ∷ (spelled name ++ 34 ∷ after))

abbrev pub begins_special : Bytes → Bool
begins_special [] = false
begins_special (b ∷ rest) = is_special b

-- Why a line refuses its text.
pub data IsRefusing (line : Bytes) : Type 0 where
  -- it begins with `#`, spaces and a digit, and is no marker
  unreadable : (rest : Bytes) → IsNumbered bare line rest
      → ((name : Bytes) → ¬ IsMarker line name) → IsRefusing line
  -- in its name a backslash, which is 92, comes before another byte than a quote or a backslash, or before the line's end
  misspelled : (start : Start) (gap front after : Bytes) → IsRunOf is_space gap
      → begins_special after ≡ false
      → IsNumbered start line (gap ++ 34 ∷ (spelled front ++ 92 ∷ after)) → IsRefusing line
