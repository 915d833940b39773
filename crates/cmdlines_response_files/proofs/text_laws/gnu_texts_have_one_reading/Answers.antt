use Rattle.cmdlines_response_files.proofs.GnuReadings.{none_empty, only, reads}
use Rattle.cmdlines_response_files.proofs.text_laws.gnu_texts_have_one_reading.Goals as goal

pub returns-clause-reads : goal.returns-clause-reads
returns-clause-reads c = reads

pub returns-clause-only : goal.returns-clause-only
returns-clause-only c = only

pub returns-clause-full : goal.returns-clause-full
returns-clause-full c = none_empty
