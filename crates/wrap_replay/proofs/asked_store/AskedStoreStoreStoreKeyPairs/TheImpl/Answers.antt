-- A look-up says what its trait asks, and beside it which key is noted.
use denote.Param.{param}
use Rattle.ckeys_base.proofs.Rested.{given_first}
use Rattle.wrap_replay.specs.contracts.asked_store.AskedStore.{the_row}
use Rattle.wrap_replay.proofs.asked_store.AskedStoreStoreStoreKeyPairs.TheImpl.Goals as goal

pub get-meets : goal.get-meets
get-meets g c = given_first g.world.𝓤 g.world.𝓛 (the_row (param 0 g.row.O)) c.args.self _ _ _ _
