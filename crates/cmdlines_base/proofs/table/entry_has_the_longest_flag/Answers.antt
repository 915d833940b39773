use Rattle.cmdlines_base.proofs.TableLemmas.{IsEntryOf-longest_fit}
use Rattle.cmdlines_base.proofs.table.entry_has_the_longest_flag.Goals as goal

pub returns : goal.returns
returns g c = IsEntryOf-longest_fit
