use Rattle.cmdlines.proofs.LanguageLemmas.{language_known}
use Rattle.cmdlines.proofs.laws.requests_have_a_known_language.Goals as goal

pub returns : goal.returns
returns c = language_known
