use Rattle.std.proofs.Common.{◌∙◌, ap, sym}
use Rattle.wrap_uses.proofs.BuildLemmas.{skipped_among}
use Rattle.wrap_uses.proofs.build.run_steps.Goals as goal

pub returns-clause-skipped : goal.returns-clause-skipped
returns-clause-skipped g c premises =
    let outputs = rw c.new-session.ensures at c.in_ok-answers.ensures.outputs in
    skipped_among _ (outputs (λ direct. c.new-entries.ensures.empty) c.new-objects.ensures.empty premises)

pub returns-clause-once : goal.returns-clause-once
returns-clause-once g c assumed kept =
    let once = rw c.new-session.ensures at c.in_ok-answers.ensures.once in
    let all_kept = ap (λ objects. objects.kept) (sym c.objects.ensures) ∙ sym c.kept_all-kept_all.ensures ∙ kept in
    once (λ direct. (c.new-entries.ensures.empty, assumed direct)) all_kept
