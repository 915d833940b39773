use Rattle.base_files.proofs.PathOrder.{paths_total, paths_tie}
use Rattle.base_files.proofs.path.paths_have_one_order.Goals as goal

pub returns-clause-total : goal.returns-clause-total
returns-clause-total c = paths_total

pub returns-clause-ties : goal.returns-clause-ties
returns-clause-ties c = paths_tie
