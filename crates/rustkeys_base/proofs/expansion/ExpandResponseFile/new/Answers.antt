use Rattle.rustkeys_base.proofs.CauseLemmas.{no_fault}
use Rattle.rustkeys_base.proofs.expansion.ExpandResponseFile.new.Goals as goal

pub returns-in-Err-clause-steady : goal.returns-in-Err-clause-steady
returns-in-Err-clause-steady g c = λ given same. absurd (no_fault _ _ given same)
