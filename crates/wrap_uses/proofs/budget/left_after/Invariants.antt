use Rattle.std.proofs.Common.{◌≡◌, ◌+◌, length}
use Rattle.wrap_uses.specs.Budgets.{size_of}
use Rattle.wrap_uses.proofs.budget.left_after.Given as goal

-- what is left, and what is still to come
abbrev pub invariant-loop-first : goal.invariant-loop-first
invariant-loop-first l = l.bytes + size_of l.rest ≡ l.left + size_of l.pairs

abbrev pub decreases-loop-first : goal.decreases-loop-first
decreases-loop-first l = length l.rest
