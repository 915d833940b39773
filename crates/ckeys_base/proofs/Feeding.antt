-- Feeding a digest from a reader, piece by piece.
use Rattle.std.proofs.Common.{◌≡◌, ◌<◌, List, length, [], ◌∷◌, ◌++◌, Option, Some, None, sym, ap, subst, ◌∙◌, append_assoc}
use Rattle.std.specs.Fn.{Mut, CalledAt}
use Rattle.std.specs.Io.KnownBytes.{Consumes}
use Rattle.std.proofs.lemmas.List.{append-nil}
use Rattle.std.proofs.lemmas.List.Concat.{flat_map-append}
use Rattle.std.proofs.lemmas.List.Elements.{All-push}
use Rattle.std.proofs.lemmas.Fn.{FoldsTo-push}
use denote.Ref.{Bor}
use Rattle.base_files.specs.Bytes.{Bytes}
use Rattle.ckeys_base.specs.Feeding.{AreFilled, IsCalledAtEach, joined}

-- what was read, shown and fed so far
pub record IsFed {F S : Type 0} (calls : Mut F (Bor Bytes × Unit {0}) (Unit {0})) (holds : S → Bytes → Type 0) (first : F) (known : Option Bytes) (now : F) (left : Option Bytes) (state : S) : Type 0 where
  pub pieces : List Bytes
  pub called : IsCalledAtEach calls first pieces now
  pub filled : AreFilled pieces
  pub consumed : Consumes known left (joined pieces)
  pub held : holds state (joined pieces)

pub joined-push : (pieces : List Bytes) (piece : Bytes) → joined (pieces ++ piece ∷ []) ≡ joined pieces ++ piece
joined-push pieces piece = flat_map-append (λ x. x) pieces (piece ∷ []) ∙ ap (λ (x : Bytes). joined pieces ++ x) (append-nil piece)

pub Consumes-both : (a b c : Option Bytes) (xs ys : Bytes) → Consumes a b xs → Consumes b c ys → Consumes a c (xs ++ ys)
Consumes-both None b c xs ys h k = tt
Consumes-both (Some a) None c xs ys h k = absurd h
Consumes-both (Some a) (Some b) None xs ys h k = absurd k
Consumes-both (Some a) (Some b) (Some c) xs ys h k = h ∙ ap (λ (x : Bytes). xs ++ x) k ∙ sym (append_assoc xs ys c)

pub IsFed-more : {F S : Type 0} (calls : Mut F (Bor Bytes × Unit {0}) (Unit {0})) (holds : S → Bytes → Type 0) (first : F) (known : Option Bytes) (now next : F) (left after : Option Bytes) (state new : S) (piece : Bytes)
    → IsFed calls holds first known now left state → CalledAt calls now piece tt next → 0 < length piece → Consumes left after piece → ((held : Bytes) → holds state held → holds new (held ++ piece)) → IsFed calls holds first known next after new
IsFed-more calls holds first known now next left after state new piece fed call some took step = record {
  pieces = fed.pieces ++ piece ∷ [];
  called = FoldsTo-push (λ before piece after. CalledAt calls before piece tt after) first fed.pieces now piece next fed.called call;
  filled = All-push (λ p. 0 < length p) fed.pieces piece fed.filled some;
  consumed = subst (λ (x : Bytes). Consumes known after x) (sym (joined-push fed.pieces piece)) (Consumes-both known left after (joined fed.pieces) piece fed.consumed took);
  held = subst (λ (x : Bytes). holds new x) (sym (joined-push fed.pieces piece)) (step (joined fed.pieces) fed.held);
}
