-- Where a folder counts in a text or in an argument.
use Rattle.std.specs.Prelude.{ℕ, ◌+◌, ◌-◌, max, Bool, not, ◌&&◌, ◌||◌, ◌==◌, nat_eq, List, [], ◌∷◌, length, drop, slice_index, codes, if◌then◌else◌}
use Rattle.std.specs.List.{starts_with}
use Rattle.std.specs.Char.{is_ascii_whitespace}
use Rattle.std.specs.Str.{byte}
use Rattle.base_files.specs.Bytes.{Bytes}

-- a folder of a text may come after this byte
abbrev pub opens : ℕ → Bool
opens b = is_ascii_whitespace b || b == byte "\"" || b == byte "'" || b == byte "<"

-- and before this one
abbrev pub closes : ℕ → Bool
closes b = b == byte "/" || is_ascii_whitespace b || b == byte "\"" || b == byte "'" || b == byte ">"

-- where a folder may begin in a byte string, and where it may end
pub record Places : Type 0 where
  pub may_begin : Bytes → ℕ → Bool
  pub may_end : Bytes → ℕ → Bool

-- those of a text
abbrev pub text_places : Places
text_places = record {
  may_begin = λ text i. i == 0 || opens (slice_index text (i - 1));
  may_end = λ text i. i == length text || closes (slice_index text i);
}

-- byte 2 of a word that begins with a hyphen and another byte than a hyphen: there the value of a short option may begin
abbrev pub is_after_letter : Bytes → ℕ → Bool
is_after_letter word i = i == 2 && slice_index word 0 == byte "-" && not (slice_index word 1 == byte "-")

-- those of an argument: none in a definition of a macro
abbrev pub argument_places : Places
argument_places = record {
  may_begin = λ word i. not (starts_with nat_eq word (codes "-D")) && (i == 0 || slice_index word (i - 1) == byte "=" || is_after_letter word i);
  may_end = λ word i. i == length word || slice_index word i == byte "/" || slice_index word i == byte "=";
}

-- the folder is at this place, and counts there
unfoldable pub counts : Places → Bytes → ℕ → Bytes → Bool
counts places text i folder = places.may_begin text i && starts_with nat_eq (drop i text) folder && places.may_end text (i + length folder)

-- the folder's length where it counts, or 0
unfoldable pub counted_len : Places → Bytes → ℕ → Bytes → ℕ
counted_len places text i folder = if counts places text i folder then length folder else 0

-- the length of the longest folder that counts at this place, or 0
unfoldable pub longest : Places → List Bytes → Bytes → ℕ → ℕ
longest places [] text i = 0
longest places (folder ∷ folders) text i = max (counted_len places text i folder) (longest places folders text i)
