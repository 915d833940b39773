-- What was read of a reader, fed to a digest and shown to a finder, piece by piece.
use Rattle.std.proofs.Common.{◌++◌, Option, Some, None, sym, ap, subst, ◌∙◌, append_assoc}
use Rattle.std.specs.Io.KnownBytes.{Consumes}
use Rattle.base_files.specs.Bytes.{Bytes}

pub record IsShown {S T : Type 0} (holds : S → Bytes → Type 0) (seen : T → Bytes → Type 0) (first : T) (known : Option Bytes) (now : T) (left : Option Bytes) (state : S) : Type 0 where
  pub bytes : Bytes
  pub consumed : Consumes known left bytes
  pub held : holds state bytes
  pub shown : (before : Bytes) → seen first before → seen now (before ++ bytes)

Consumes-then : (a b c : Option Bytes) (xs ys : Bytes) → Consumes a b xs → Consumes b c ys → Consumes a c (xs ++ ys)
Consumes-then None b c xs ys h k = tt
Consumes-then (Some a) None c xs ys h k = absurd h
Consumes-then (Some a) (Some b) None xs ys h k = absurd k
Consumes-then (Some a) (Some b) (Some c) xs ys h k = h ∙ ap (λ (x : Bytes). xs ++ x) k ∙ sym (append_assoc xs ys c)

-- one more piece
pub IsShown-more : {S T : Type 0} (holds : S → Bytes → Type 0) (seen : T → Bytes → Type 0) (first : T) (known : Option Bytes) (now next : T) (left after : Option Bytes) (state new : S) (piece : Bytes)
    → IsShown holds seen first known now left state → Consumes left after piece → ((held : Bytes) → holds state held → holds new (held ++ piece)) → ((bytes : Bytes) → seen now bytes → seen next (bytes ++ piece)) → IsShown holds seen first known next after new
IsShown-more holds seen first known now next left after state new piece so_far took fed looked = record {
  bytes = so_far.bytes ++ piece;
  consumed = Consumes-then known left after so_far.bytes piece so_far.consumed took;
  held = fed so_far.bytes so_far.held;
  shown = λ before h. subst (λ (x : Bytes). seen next x) (append_assoc before so_far.bytes piece) (looked (before ++ so_far.bytes) (so_far.shown before h));
}
