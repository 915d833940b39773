use Rattle.std.proofs.Common.{◌≡◌, take}
use Rattle.wrap_replay_base.proofs.commands.made_again.Given as goal

abbrev pub invariant-loop-made_one : goal.invariant-loop-made_one
invariant-loop-made_one l = l.contents ≡ take l.made_one-index l.made.contents
