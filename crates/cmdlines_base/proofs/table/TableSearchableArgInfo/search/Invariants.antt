use Rattle.std.proofs.Common.{◌≡◌, ◌-◌, length}
use Rattle.cmdlines_base.specs.Table.{entry_at, entries_of, longer, longest_fit}
use Rattle.cmdlines_base.specs.Nodes.{IsNode}
use Rattle.cmdlines_base.proofs.table.TableSearchableArgInfo.search.Given as goal

-- the best so far, or a longer fit in the node, is the longest of all
abbrev pub invariant-loop-depth : goal.invariant-loop-depth
invariant-loop-depth g l = IsNode l.depth l.word (entries_of l.node) × (longer (entry_at l.best) (longest_fit (entries_of l.node) l.word) ≡ longest_fit l.fn.self l.word)

abbrev pub decreases-loop-depth : goal.decreases-loop-depth
decreases-loop-depth g l = length l.word - l.depth
