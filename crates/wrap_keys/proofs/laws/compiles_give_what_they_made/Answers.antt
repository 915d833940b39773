use Rattle.wrap_keys.proofs.Gathered.{gives_all}
use Rattle.wrap_keys.proofs.laws.compiles_give_what_they_made.Goals as goal

pub returns : goal.returns
returns c = gives_all
