use Rattle.cmdlines_response_files.proofs.DepthLaws.{depth_is_enough, is_recursion}
use Rattle.cmdlines_response_files.proofs.laws.expansion_is_recursion.Goals as goal

pub returns-clause-recursion : goal.returns-clause-recursion
returns-clause-recursion c = is_recursion

pub returns-clause-depth : goal.returns-clause-depth
returns-clause-depth c = depth_is_enough
