use Rattle.std.proofs.Common.{◌≡◌, ◌++◌, take}
use Rattle.cmdlines.proofs.command.push_all.Given as goal

-- the words so far, and then those that were added
abbrev pub invariant-loop-word : goal.invariant-loop-word
invariant-loop-word l = l.words ≡ l.fn.words ++ take l.word-index l.more
