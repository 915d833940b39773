use Rattle.ckeys_records.proofs.WordEnds.{none_ends}
use Rattle.ckeys_records.proofs.word_end.stripped_words_lack_the_end.Goals as goal

pub returns : goal.returns
returns c = none_ends c.stripping_adds_no_byte.ensures
