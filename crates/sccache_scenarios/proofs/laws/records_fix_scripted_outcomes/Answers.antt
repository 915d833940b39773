use Rattle.sccache_scenarios.proofs.OutcomeLemmas.{records_made}
use Rattle.sccache_scenarios.proofs.RunLemmas.{outcomes_equal, source_safe}
use Rattle.sccache_scenarios.proofs.laws.records_fix_scripted_outcomes.Goals as goal

pub returns-clause-made : goal.returns-clause-made
returns-clause-made c = records_made c.commands_read_as_wanted.ensures.compile c.commands_read_as_wanted.ensures.preprocess c.requests_have_a_known_language.ensures

pub returns-clause-equal : goal.returns-clause-equal
returns-clause-equal c = outcomes_equal (records_made c.commands_read_as_wanted.ensures.compile c.commands_read_as_wanted.ensures.preprocess c.requests_have_a_known_language.ensures)

pub returns-clause-safe : goal.returns-clause-safe
returns-clause-safe c = source_safe c.inputs_are_safe.ensures
