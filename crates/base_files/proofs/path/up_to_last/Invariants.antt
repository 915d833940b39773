use Rattle.std.proofs.Common.{length}
use Rattle.base_files.proofs.PieceLaws.{SameLast}
use Rattle.base_files.proofs.path.up_to_last.Given as goal

-- what was taken off the end has no component
abbrev pub invariant-loop-rest : goal.invariant-loop-rest
invariant-loop-rest l = SameLast l.path l.rest

abbrev pub decreases-loop-rest : goal.decreases-loop-rest
decreases-loop-rest l = length l.rest
