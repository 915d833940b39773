use Rattle.cmdlines_tables.proofs.PlaceLemmas.{item_is}
use Rattle.cmdlines_tables.proofs.laws.arguments_are_their_items.Goals as goal

pub returns : goal.returns
returns c = item_is
