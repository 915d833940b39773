use Rattle.std.proofs.Common.{◌∷◌, Option, List, ℕ, ap, sym, ◌∙◌, length, arith}
use Rattle.std.specs.List.{cons_option}
use Rattle.ckeys_marker_walk.specs.Lines.{after_line}
use Rattle.ckeys_marker_walk.specs.Scanning.{Sight, sight_in, sight_of_mark, sights}
use Rattle.ckeys_marker_walk.proofs.Cutting.{sights-cut}
use Rattle.ckeys_marker_walk.proofs.markers.MarkersIterator.next.Goals as goal

pub returns-in-Some-clause-steps : goal.returns-in-Some-clause-steps
returns-in-Some-clause-steps c =
    let rest = c.from_hash-marked.result.now in
    sym c.loop-marked.invariant ∙ sym c.from_hash-marked.ensures.sights ∙ sights-cut rest
    ∙ ap (λ (o : Option Sight). cons_option o (sights (after_line rest))) (sym (c.in-Some.ensures ∙ ap sight_in c.cut_line.ensures.line))
    ∙ ap (λ (l : List ℕ). sight_of_mark c.in-Some.mark ∷ sights l) (sym c.cut_line.ensures.after)

pub returns-in-Some-clause-goes : goal.returns-in-Some-clause-goes
returns-in-Some-clause-goes c = let e = returns-in-Some-clause-steps c in record { on = λ _. (tt, tt, omega (arith, ap length e)); keeps = tt; rests = λ _. tt }

pub loop-marked-preserved : goal.loop-marked-preserved
loop-marked-preserved c =
    let rest = c.from_hash-marked.result.now in
    sym (sym c.loop-marked.invariant ∙ sym c.from_hash-marked.ensures.sights ∙ sights-cut rest
    ∙ ap (λ (o : Option Sight). cons_option o (sights (after_line rest))) (sym (c.in_default.ensures ∙ ap sight_in c.cut_line.ensures.line))
    ∙ ap sights (sym c.cut_line.ensures.after))
