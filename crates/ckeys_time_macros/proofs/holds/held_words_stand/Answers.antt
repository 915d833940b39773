use Rattle.ckeys_time_macros.proofs.Holding.{Occurs-holds, StandsIn-Occurs, Occurs-StandsIn}
use Rattle.ckeys_time_macros.proofs.holds.held_words_stand.Goals as goal

pub returns : goal.returns
returns c = λ text word. (
  λ held. StandsIn-Occurs text word ((Occurs-holds text word).0 held),
  λ stands. (Occurs-holds text word).1 (Occurs-StandsIn text word stands),
)
