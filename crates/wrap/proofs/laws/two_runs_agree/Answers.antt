use Rattle.wrap.proofs.RunSteps.{two_runs_agree}
use Rattle.wrap.proofs.laws.two_runs_agree.Goals as goal

pub returns : goal.returns
returns g c = λ max_kept other. two_runs_agree g.H.HashState.digest_of max_kept other c.call_keys_tell_records.ensures
