-- Where names occur in a list.
use Rattle.std.specs.Prelude.{◌≡◌, ℕ, Bool, false, nat_le, List, drop, not, Option, None, Some}
use Rattle.std.specs.BTreeMap.{BTreeMap, get}
use Rattle.std.specs.Cmp.Lexicographic.{slice_cmp}
use Rattle.std.specs.Ordering.{nat_cmp}
use Rattle.base_files.specs.Bytes.{Bytes}
use Rattle.rustc_texts.specs.Outputs.{has_name}

-- whether the last place is that place or one after it
abbrev pub is_from : ℕ → Option ℕ → Bool
is_from place None = false
is_from place (Some last) = nat_le place last

-- a map says where each name of a list occurs last
abbrev pub TellsLast : BTreeMap Bytes ℕ → List Bytes → Type 0
TellsLast last names = (name : Bytes) (place : ℕ) → is_from place (get (slice_cmp nat_cmp) last name) ≡ has_name (drop place names) name

-- none of the names is that name
abbrev pub is_none_of : List Bytes → Bytes → Bool
is_none_of names name = not (has_name names name)
