-- Parts of a text, and the words that it holds.
use Rattle.std.specs.Prelude.{ℤ, pos, Bool, ◌||◌, if◌then◌else◌, nat_eq, List, [], ◌∷◌, ◌++◌, Option, Some, option_and_then, codes}
use Rattle.std.specs.List.{starts_with}
use Rattle.std.specs.Option.{option_map}
use Rattle.base_files.specs.Bytes.{Bytes}

-- all parts in a row, where none is missing
abbrev pub whole : List (Option Bytes) → Option Bytes
whole [] = Some []
whole (part ∷ parts) = option_and_then (λ first. option_map (λ rest. first ++ rest) (whole parts)) part

-- whether the word occurs in the text, at its start or further on
abbrev pub holds : Bytes → Bytes → Bool
holds word [] = starts_with nat_eq [] word
holds word (b ∷ text) = starts_with nat_eq (b ∷ text) word || holds word text

-- what a compiler ends with that goes over the text: 1 where it holds `#error`, and else 0
abbrev pub error_status : Bytes → ℤ
error_status text = if holds (codes "#error") text then pos 1 else pos 0
