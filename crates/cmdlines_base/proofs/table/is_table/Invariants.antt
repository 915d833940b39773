use Rattle.std.proofs.Common.{◌≡◌, length}
use Rattle.cmdlines_base.specs.Table.{is_table, entries_of}
use Rattle.cmdlines_base.proofs.table.is_table.Given as goal

-- what is left is a table exactly if all of it is
abbrev pub invariant-loop-first : goal.invariant-loop-first
invariant-loop-first g l = is_table (entries_of l.rest) ≡ is_table (entries_of l.entries)

abbrev pub decreases-loop-first : goal.decreases-loop-first
decreases-loop-first g l = length l.rest
