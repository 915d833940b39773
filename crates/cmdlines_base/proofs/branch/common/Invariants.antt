use Rattle.std.proofs.Common.{◌-◌, ◌≤◌, length}
use Rattle.cmdlines_base.specs.Nodes.{IsNode}
use Rattle.cmdlines_base.specs.Table.{entries_of}
use Rattle.cmdlines_base.proofs.branch.common.Given as goal

-- so far all flags begin as the word does
abbrev pub invariant-loop-depth : goal.invariant-loop-depth
invariant-loop-depth g l = IsNode l.depth l.word (entries_of l.node) × (l.fn.depth ≤ l.depth)

abbrev pub decreases-loop-depth : goal.decreases-loop-depth
decreases-loop-depth g l = length l.word - l.depth
