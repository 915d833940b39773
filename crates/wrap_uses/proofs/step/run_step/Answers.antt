use Rattle.std.proofs.Common.{◌∙◌, sym}
use Rattle.std.proofs.lemmas.Bool.{false≢true}
use Rattle.wrap_uses.proofs.StepLemmas.{costs_of, fresh_of}
use Rattle.wrap_uses.proofs.step.run_step.Goals as goal

pub returns-clause-costs : goal.returns-clause-costs
returns-clause-costs g c = rw c.outcome_of.ensures (costs_of _ _ _ _ _ _ _ _ _ _ _ _ c.in_ok-answer.ensures.answered.says c.in_ok-answer.ensures.turn.asked)

pub returns-clause-right : goal.returns-clause-right
returns-clause-right g c off earlier held premises =
    let are_true = c.in_ok-answer.ensures.history.agree earlier (λ on. absurd (false≢true (sym off ∙ on))) in
    rw c.outcome_of.ensures (fresh_of _ _ (c.in_ok-answer.ensures.history.outputs are_true earlier held premises))
