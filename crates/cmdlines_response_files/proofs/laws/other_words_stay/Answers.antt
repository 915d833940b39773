use Rattle.cmdlines_response_files.proofs.OpeningLaws.{words_stay}
use Rattle.cmdlines_response_files.proofs.laws.other_words_stay.Goals as goal

pub returns : goal.returns
returns c = words_stay
