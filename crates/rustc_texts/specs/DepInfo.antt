-- The sources that a text on dependencies names.
use Rattle.std.specs.Prelude.{ℕ, ◌==◌, ◌&&◌, not, nat_eq, Bool, List, [], ◌∷◌, length, drop, map, filter, codes, Option, None, Some, unwrap_or, option_and_then, if◌then◌else◌}
use Rattle.std.specs.List.{slice_split, starts_with}
use Rattle.std.specs.Option.{option_map}
use Rattle.std.specs.Str.{byte}
use Rattle.std.specs.Str.Lines.{lines}
use Rattle.base_files.specs.Bytes.{Bytes}
use Rattle.base_files.specs.Path.{join}

-- what comes after the first `: ` of a line
abbrev pub after_colon : Bytes → Option Bytes
after_colon [] = None
after_colon (b ∷ bs) = if starts_with nat_eq (b ∷ bs) (codes ": ") then Some (drop 2 (b ∷ bs)) else after_colon bs

abbrev pub first_of : {X : Type 0} → List X → Option X
first_of [] = None
first_of (x ∷ xs) = Some x

-- The rule of a text: what comes after the first `: ` of its first line. A line ends at 10, and a 13 right before that is no part of it.
abbrev pub rule_of : Bytes → Option Bytes
rule_of text = option_and_then after_colon (first_of (lines text))

-- a byte of a rule, between the one before it and the one after it, each 0 where there is none
pub record Place : Type 0 where
  pub before : ℕ
  pub here : ℕ
  pub after : ℕ

-- the bytes of a list in their places, the first of them after this one
abbrev pub placed : ℕ → Bytes → List Place
placed before [] = []
placed before (b ∷ bs) = record { before = before; here = b; after = unwrap_or (first_of bs) 0 } ∷ placed b bs

-- a space ends a name, unless a backslash comes right before it
abbrev pub ends_name : Place → Bool
ends_name place = place.here == byte " " && not (place.before == byte "\\")

-- a backslash right before a space is no letter
abbrev pub is_letter : Place → Bool
is_letter place = not (place.here == byte "\\" && place.after == byte " ")

-- the name in these places
abbrev pub name_at : List Place → Bytes
name_at places = map (λ place. place.here) (filter is_letter places)

-- all but the last one where that is empty
abbrev pub without_empty_last : List Bytes → List Bytes
without_empty_last [] = []
without_empty_last (name ∷ []) = if length name == 0 then [] else name ∷ []
without_empty_last (name ∷ other ∷ others) = name ∷ without_empty_last (other ∷ others)

-- the names of a rule, also empty ones between two spaces
abbrev pub names_in : Bytes → List Bytes
names_in rule = without_empty_last (map name_at (slice_split ends_name (placed 0 rule)))

-- the sources of a text, as they are, in a directory: none where it starts with no rule
abbrev pub sources_of : Bytes → Bytes → Option (List Bytes)
sources_of dir text = option_map (λ rule. map (join dir) (names_in rule)) (rule_of text)
