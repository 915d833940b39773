use Rattle.cmdlines.proofs.InputLemmas.{object_there}
use Rattle.cmdlines.proofs.laws.requests_have_an_object.Goals as goal

pub returns : goal.returns
returns c = object_there
