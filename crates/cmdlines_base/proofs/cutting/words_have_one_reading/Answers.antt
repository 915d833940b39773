use Rattle.cmdlines_base.proofs.ReadingLemmas.{reading_reads, only_reading}
use Rattle.cmdlines_base.proofs.cutting.words_have_one_reading.Goals as goal

pub returns-clause-is : goal.returns-clause-is
returns-clause-is g c = reading_reads

pub returns-clause-only : goal.returns-clause-only
returns-clause-only g c = λ dashes table words r h. only_reading dashes table h
