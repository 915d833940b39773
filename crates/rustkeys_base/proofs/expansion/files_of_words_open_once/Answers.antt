use Rattle.rustkeys_base.proofs.StayLaws.{others_stay}
use Rattle.rustkeys_base.proofs.expansion.files_of_words_open_once.Goals as goal

pub returns-clause-others_stay : goal.returns-clause-others_stay
returns-clause-others_stay c = others_stay
