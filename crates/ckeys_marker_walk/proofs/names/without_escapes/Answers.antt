use Rattle.std.proofs.Common.{◌+◌, ◌++◌, ℕ, List, [], ◌∷◌, Bool, Vec, Global, drop, get_or, ap, sym, ◌∙◌}
use Rattle.ckeys_marker_walk.specs.Spelling.{meant_from}
use Rattle.ckeys_marker_walk.proofs.Meaning.{step_over, step_on}
use Rattle.ckeys_marker_walk.proofs.names.without_escapes.Goals as goal
use Rattle.ckeys_marker_walk.proofs.names.without_escapes.Goals.{then-not-escaped+in_ok-push, else-not-escaped}

pub loop-byte-preserved : goal.loop-byte-preserved
loop-byte-preserved c =
    let raw = c.args.raw.now in
    let i = c.loop-byte.byte-index in
    let before = c.loop-byte.name.items in
    elim c.if-not-escaped.branch [
      | then-not-escaped+in_ok-push w ↦
          ap (λ (v : Vec ℕ Global). v.items ++ meant_from c.begins_escape-escaped.result (drop (i + 1) raw)) w.name-is
          ∙ ap (λ (l : List ℕ). l ++ meant_from c.begins_escape-escaped.result (drop (i + 1) raw)) w.in_ok-push.ensures.items
          ∙ ap (λ (e : Bool). (before ++ get_or raw i 0 ∷ []) ++ meant_from e (drop (i + 1) raw)) w.if-not-escaped.true
          ∙ step_on c.loop-byte.escaped raw before i c.loop-byte-test.true (sym c.begins_escape-escaped.ensures ∙ w.if-not-escaped.true)
          ∙ c.loop-byte.invariant
      | else-not-escaped w ↦
          ap (λ (v : Vec ℕ Global). v.items ++ meant_from c.begins_escape-escaped.result (drop (i + 1) raw)) w.name-is
          ∙ ap (λ (e : Bool). before ++ meant_from e (drop (i + 1) raw)) w.if-not-escaped.false
          ∙ step_over c.loop-byte.escaped raw before i c.loop-byte-test.true (sym c.begins_escape-escaped.ensures ∙ w.if-not-escaped.false)
          ∙ c.loop-byte.invariant
    ]
