use Rattle.std.proofs.Common.{◌+◌, Bool, drop, take, get_or, ap, sym, ◌∙◌}
use Rattle.std.proofs.lemmas.Bool.{ne_eqb}
use Rattle.ckeys_marker_walk.specs.Scanning.{name_from}
use Rattle.ckeys_marker_walk.proofs.Quoting.{led_all, step_escaped, step_plain}
use Rattle.ckeys_marker_walk.proofs.line.name_in.Goals as goal
use Rattle.ckeys_marker_walk.proofs.line.name_in.Goals.{then-escaped+else-not-is_special, else-escaped+else-byte-eq34}

pub loop-i-preserved : goal.loop-i-preserved
loop-i-preserved c =
    let bytes = c.args.bytes.now in
    let i = c.loop-i.i in
    let front = take i bytes in
    elim c.if-escaped.branch [
      | then-escaped+else-not-is_special w ↦
          ap (λ (e : Bool). led_all (take (i + 1) bytes) (name_from e (drop (i + 1) bytes))) w.escaped-is
          ∙ step_escaped bytes i c.loop-i-test.true (sym w.is_special.ensures ∙ w.if-not-is_special.false)
          ∙ ap (λ (e : Bool). led_all front (name_from e (drop i bytes))) (sym w.if-escaped.true) ∙ c.loop-i.invariant
      | else-escaped+else-byte-eq34 w ↦
          step_plain bytes i c.if-escaped.escaped c.loop-i-test.true (ne_eqb (get_or bytes i 0) 34 w.if-byte-eq34.false) w.escaped-is
          ∙ ap (λ (e : Bool). led_all front (name_from e (drop i bytes))) (sym w.if-escaped.false) ∙ c.loop-i.invariant
    ]
