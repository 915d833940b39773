use Rattle.cmdlines_response_files.proofs.MsvcReadings.{only, reads}
use Rattle.cmdlines_response_files.proofs.text_laws.msvc_texts_have_one_reading.Goals as goal

pub returns-clause-reads : goal.returns-clause-reads
returns-clause-reads c = reads

pub returns-clause-only : goal.returns-clause-only
returns-clause-only c = only
