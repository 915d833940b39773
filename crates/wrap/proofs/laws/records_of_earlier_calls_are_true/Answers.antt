use Rattle.wrap.proofs.RunSteps.{agree_step, entry_premises}
use Rattle.wrap.proofs.laws.records_of_earlier_calls_are_true.Goals as goal

pub returns : goal.returns
returns g c meaning tree settings request held earlier inv premises =
    agree_step g.H.HashState.digest_of c.records_are_true.ensures.agree meaning tree settings request held earlier (λ on. (inv, entry_premises g.H.HashState.digest_of _ premises))
