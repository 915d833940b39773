use Rattle.std.proofs.Common.{◌≡◌, take}
use Rattle.rustkeys.proofs.compilation.copied.Given as goal

-- a copy of each so far
abbrev pub invariant-loop-word : goal.invariant-loop-word
invariant-loop-word l = l.copies.items ≡ take l.word-index l.words
