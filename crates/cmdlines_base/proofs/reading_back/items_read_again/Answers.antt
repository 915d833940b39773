use Rattle.cmdlines_base.proofs.AgainLemmas.{reads_all}
use Rattle.cmdlines_base.proofs.ClearLemmas.{clear_from_test}
use Rattle.cmdlines_base.proofs.reading_back.items_read_again.Goals as goal

pub returns : goal.returns
returns g c = λ dashes table clear lets. reads_all table (clear_from_test table clear) dashes lets
