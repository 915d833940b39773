use Rattle.ckeys_base.proofs.OneStripping.{has_exactly_one, left-by_any}
use Rattle.ckeys_base.proofs.strip.stripping_leaves_one_text.Goals as goal

pub returns-clause-one : goal.returns-clause-one
returns-clause-one c = has_exactly_one

pub returns-clause-left : goal.returns-clause-left
returns-clause-left c = left-by_any
