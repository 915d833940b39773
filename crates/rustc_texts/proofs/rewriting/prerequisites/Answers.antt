use Rattle.std.proofs.Common.{◌≡◌, ℕ, ◌==◌, Bool, true, false, [], ◌∷◌, ◌++◌, if◌then◌else◌, ap, sym, ◌∙◌, arith, length, Vec, Global}
use Rattle.std.specs.List.{join_with_byte}
use Rattle.base_files.specs.Bytes.{Bytes}
use Rattle.rustc_texts.proofs.JoinedPieces.{after-others, alone}
use Rattle.rustc_texts.proofs.rewriting.prerequisites.Goals as goal
use Rattle.rustc_texts.proofs.rewriting.prerequisites.Goals.{then-not-is_empty+in_ok-push, else-not-is_empty}

pub returns : goal.returns
returns c =
    let old = c.args.old.now in
    let escaped = c.args.escaped.now in
    let some : (length old == 0) ≡ false = grind (arith, c.if-is_empty.false, c.is_empty.ensures) in
    let written : c.if-not-is_empty.joined.items ++ old ≡ join_with_byte 32 (escaped ++ old ∷ []) =
    elim c.if-not-is_empty.branch [
      | then-not-is_empty+in_ok-push w ↦
          let others : (length escaped == 0) ≡ false = grind (arith, w.if-not-is_empty.true, c.is_empty-2.ensures) in
          let joined : c.if-not-is_empty.joined.items ≡ join_with_byte 32 escaped ++ 32 ∷ [] =
          ap (λ (v : Vec ℕ Global). v.items) w.joined-is ∙ w.in_ok-push.ensures.items ∙ ap (λ (x : Bytes). x ++ 32 ∷ []) c.in_ok-joined.ensures in
          after-others escaped old c.if-not-is_empty.joined.items others joined
      | else-not-is_empty w ↦
          let none : (length escaped == 0) ≡ true = grind (arith, w.if-not-is_empty.false, c.is_empty-2.ensures) in
          alone escaped old c.if-not-is_empty.joined.items none (ap (λ (v : Vec ℕ Global). v.items) w.joined-is ∙ c.in_ok-joined.ensures)
    ] in
    c.from_vec-2.ensures ∙ c.in_ok-extend_from_slice.ensures.items ∙ written
    ∙ ap (λ (t : Bool). join_with_byte 32 (escaped ++ (if t then [] else old ∷ []))) (sym some)
