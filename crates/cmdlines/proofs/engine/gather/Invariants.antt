use Rattle.std.proofs.Common.{◌≡◌, length}
use Rattle.cmdlines_base.specs.Cutting.{place_of, reading_at, table_in}
use Rattle.cmdlines_base.specs.Table.{all_entries}
use Rattle.cmdlines.specs.Collecting.{decide}
use Rattle.cmdlines.specs.Parsing.{decision_by}
use Rattle.cmdlines.proofs.engine.gather.Given as goal

-- what was gathered and the words that are left decide as all words do
abbrev pub invariant-loop-next : goal.invariant-loop-next
invariant-loop-next g l =
    let entries = all_entries (g.S.SearchableArgInfo.tables l.fn.table) in
    record {
      same : table_in l.arguments ≡ l.fn.table;
      told : decide l.fn.kind entries l.facts l.lists (reading_at entries (place_of l.arguments)) ≡ decision_by l.fn.kind entries l.fn.words;
    }

abbrev pub decreases-loop-next : goal.decreases-loop-next
decreases-loop-next g l = length (place_of l.arguments).words
