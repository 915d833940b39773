-- The names of a path in its normal form, one after another.
use Rattle.std.proofs.Common.{◌≡◌, List, [], ◌∷◌, ◌++◌, ap}
use Rattle.std.specs.List.{flat_map, join_with_byte}
use Rattle.std.proofs.lemmas.List.{append-nil}
use Rattle.base_files.specs.Bytes.{Bytes}

-- each name after a slash
abbrev pub after_slashes : List Bytes → Bytes
after_slashes names = flat_map (λ name. 47 ∷ name) names

pub join-first : (first : Bytes) (later : List Bytes) → first ++ after_slashes later ≡ join_with_byte 47 (first ∷ later)
join-first first [] = append-nil first
join-first first (name ∷ later) = ap (λ (x : Bytes). first ++ 47 ∷ x) (join-first name later)
