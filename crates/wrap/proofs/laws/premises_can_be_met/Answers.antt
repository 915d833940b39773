use Rattle.wrap.proofs.ExampleLemmas.{premises_met, other_records, telling_length}
use Rattle.wrap.proofs.laws.premises_can_be_met.Goals as goal

pub returns-clause-met : goal.returns-clause-met
returns-clause-met c = premises_met

pub returns-clause-differ : goal.returns-clause-differ
returns-clause-differ c = other_records

pub returns-clause-long : goal.returns-clause-long
returns-clause-long c = telling_length
