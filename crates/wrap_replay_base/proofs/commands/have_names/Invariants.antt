use Rattle.std.proofs.Common.{◌≡◌, length}
use Rattle.wrap_replay_base.specs.Recorded.{same_outputs}
use Rattle.wrap_replay_base.proofs.commands.have_names.Given as goal

-- what is left has the same answer
abbrev pub invariant-loop-output : goal.invariant-loop-output
invariant-loop-output l = same_outputs l.outputs l.names ≡ same_outputs l.fn.outputs l.fn.names

abbrev pub decreases-loop-output : goal.decreases-loop-output
decreases-loop-output l = length l.outputs
