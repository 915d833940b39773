use Rattle.cmdlines_tables.proofs.TableTests.{own_words}
use Rattle.cmdlines_tables.proofs.laws.own_words_are_read.Goals as goal

pub returns : goal.returns
returns c = own_words
