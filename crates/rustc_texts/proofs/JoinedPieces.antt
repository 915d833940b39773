-- Pieces with a space between each two.
use Rattle.std.proofs.Common.{arith, ◌≡◌, List, [], ◌∷◌, ◌++◌, ◌==◌, true, false, length, ap, refl, sym, ◌∙◌, append_assoc}
use Rattle.std.specs.List.{flat_map, join_with_byte}
use Rattle.std.proofs.lemmas.List.{append-nil}
use Rattle.base_files.specs.Bytes.{Bytes}

-- each piece after a space
abbrev pub after_spaces : List Bytes → Bytes
after_spaces pieces = flat_map (λ piece. 32 ∷ piece) pieces

pub join-first : (first : Bytes) (later : List Bytes) → first ++ after_spaces later ≡ join_with_byte 32 (first ∷ later)
join-first first [] = append-nil first
join-first first (piece ∷ later) = ap (λ (x : Bytes). first ++ 32 ∷ x) (join-first piece later)

-- one more piece after others
pub join-last : (first : Bytes) (later : List Bytes) (last : Bytes) → join_with_byte 32 ((first ∷ later) ++ last ∷ []) ≡ join_with_byte 32 (first ∷ later) ++ 32 ∷ last
join-last first [] last = refl
join-last first (piece ∷ later) last = ap (λ (x : Bytes). first ++ 32 ∷ x) (join-last piece later last) ∙ sym (append_assoc first (32 ∷ join_with_byte 32 (piece ∷ later)) (32 ∷ last))

-- a further piece is written after a space, where there are others
pub after-others : (pieces : List Bytes) (last joined : Bytes) → (length pieces == 0) ≡ false → joined ≡ join_with_byte 32 pieces ++ 32 ∷ [] → joined ++ last ≡ join_with_byte 32 (pieces ++ last ∷ [])
after-others [] last joined e q = cc
after-others (first ∷ later) last joined e q =
    ap (λ (x : Bytes). x ++ last) q ∙ append_assoc (join_with_byte 32 (first ∷ later)) (32 ∷ []) last ∙ sym (join-last first later last)

pub alone : (pieces : List Bytes) (last joined : Bytes) → (length pieces == 0) ≡ true → joined ≡ join_with_byte 32 pieces → joined ++ last ≡ join_with_byte 32 (pieces ++ last ∷ [])
alone [] last joined e q = ap (λ (x : Bytes). x ++ last) q
alone (first ∷ later) last joined e q = grind (arith, e)
