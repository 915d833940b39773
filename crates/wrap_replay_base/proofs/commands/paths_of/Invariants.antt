use Rattle.std.proofs.Common.{◌≡◌, take}
use Rattle.wrap_replay_base.specs.Recorded.{paths_in}
use Rattle.wrap_replay_base.proofs.commands.paths_of.Given as goal

abbrev pub invariant-loop-output : goal.invariant-loop-output
invariant-loop-output l = l.paths.items ≡ paths_in (take l.output-index l.outputs)
