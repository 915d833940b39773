use Rattle.std.proofs.Common.{rules}
use Rattle.cmdlines_base.proofs.TableLemmas.{longest_fit-append, all_entries-append}
use Rattle.cmdlines_base.proofs.table.Tuple2SearchableArgInfo.search.Goals as goal

pub returns : goal.returns
returns g c = rw (all_entries-append, longest_fit-append) (search rules)
