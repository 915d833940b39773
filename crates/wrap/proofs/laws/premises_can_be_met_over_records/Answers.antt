use Rattle.std.proofs.Common.{refl}
use Rattle.wrap.proofs.DirectExampleLemmas.{asks_on, found_on, premises_on, recorded_on}
use Rattle.wrap.proofs.laws.premises_can_be_met_over_records.Goals as goal

pub returns-clause-met : goal.returns-clause-met
returns-clause-met c = premises_on

pub returns-clause-asks : goal.returns-clause-asks
returns-clause-asks c = asks_on

pub returns-clause-recorded : goal.returns-clause-recorded
returns-clause-recorded c = recorded_on

pub returns-clause-found : goal.returns-clause-found
returns-clause-found c = found_on

pub returns-clause-long : goal.returns-clause-long
returns-clause-long c bytes = refl
