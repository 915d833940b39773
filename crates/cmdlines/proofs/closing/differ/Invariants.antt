use Rattle.std.proofs.Common.{◌≡◌, length}
use Rattle.cmdlines.specs.Parsing.{differ, holds_other}
use Rattle.cmdlines.proofs.closing.differ.Given as goal

-- the values that are left decide
abbrev pub invariant-loop-other : goal.invariant-loop-other
invariant-loop-other l = holds_other l.first l.rest ≡ differ l.fn.values

abbrev pub decreases-loop-other : goal.decreases-loop-other
decreases-loop-other l = length l.rest
