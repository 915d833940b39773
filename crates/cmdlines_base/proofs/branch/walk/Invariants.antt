use Rattle.std.proofs.Common.{◌≡◌, ◌+◌, ◌-◌, ◌<◌, length, max}
use Rattle.cmdlines_base.specs.Nodes.{IsNode}
use Rattle.cmdlines_base.specs.Reach.{reach}
use Rattle.cmdlines_base.specs.Table.{entry_at, entries_of, longer, longest_fit}
use Rattle.cmdlines_base.proofs.branch.walk.Given as goal

-- in each table the best so far, or a longer fit in the node, is the best of all; none of the others reaches further; and the steps are counted
abbrev pub invariant-nodes : goal.invariant-nodes
invariant-nodes g l = IsNode l.depth l.word (entries_of l.node)
    × IsNode l.depth l.word (entries_of l.node_second)
    × (0 < length l.node + length l.node_second)
    × (longer (entry_at l.best) (longest_fit (entries_of l.node) l.word) ≡ longer (entry_at l.fn.best) (longest_fit (entries_of l.fn.node) l.word))
    × (longer (entry_at l.best_second) (longest_fit (entries_of l.node_second) l.word) ≡ longer (entry_at l.fn.best_second) (longest_fit (entries_of l.fn.node_second) l.word))
    × (max (reach (entries_of l.node) l.word) (reach (entries_of l.node_second) l.word) ≡ max (reach (entries_of l.fn.node) l.word) (reach (entries_of l.fn.node_second) l.word))
    × (l.depth ≡ l.fn.depth + l.steps)

abbrev pub decreases-nodes : goal.decreases-nodes
decreases-nodes g l = length l.word - l.depth
