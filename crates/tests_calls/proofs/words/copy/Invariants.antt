use Rattle.std.proofs.Common.{◌≡◌, length}
use Rattle.tests_calls.proofs.words.copy.Given as goal

-- a copy of each text so far
abbrev pub invariant-loop-text : goal.invariant-loop-text
invariant-loop-text l = length l.copies.items ≡ l.text-index
