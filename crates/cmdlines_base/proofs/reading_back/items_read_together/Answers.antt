use Rattle.cmdlines_base.proofs.AgainLemmas.{again_all}
use Rattle.cmdlines_base.proofs.reading_back.items_read_together.Goals as goal

pub returns : goal.returns
returns g c = again_all
