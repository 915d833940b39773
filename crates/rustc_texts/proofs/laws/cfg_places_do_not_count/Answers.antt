use Rattle.rustc_texts.proofs.WordLaws.{kept-alike}
use Rattle.rustc_texts.proofs.laws.cfg_places_do_not_count.Goals as goal

pub returns : goal.returns
returns c = kept-alike
