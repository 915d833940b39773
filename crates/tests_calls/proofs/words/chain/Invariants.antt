use Rattle.std.proofs.Common.{◌≡◌, length}
use Rattle.tests_calls.proofs.words.chain.Given as goal

-- a text for each number so far
abbrev pub invariant-loop-number : goal.invariant-loop-number
invariant-loop-number l = length l.texts.items ≡ l.number
