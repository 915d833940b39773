use Rattle.std.proofs.Common.{◌≡◌, take}
use Rattle.wrap_replay_base.proofs.commands.copies.Given as goal

abbrev pub invariant-loop-word : goal.invariant-loop-word
invariant-loop-word l = l.copy.items ≡ take l.word-index l.words
