use Rattle.wrap.proofs.RunSteps.{plain_kept, plain_true}
use Rattle.wrap.proofs.laws.records_that_are_not_kept_change_nothing.Goals as goal

pub returns-clause-are_true : goal.returns-clause-are_true
returns-clause-are_true g c = plain_true g.H.HashState.digest_of

pub returns-clause-untouched : goal.returns-clause-untouched
returns-clause-untouched g c = plain_kept g.H.HashState.digest_of
