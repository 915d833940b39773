-- A look-up says what its trait asks, and beside it that it changes nothing.
use Rattle.ckeys_base.proofs.Rested.{given_first}
use Rattle.wrap_base.specs.contracts.map_store.MapStore.{the_row}
use Rattle.wrap_base.proofs.map_store.MapStoreStore.TheImpl.Goals as goal

pub get-meets : goal.get-meets
get-meets g c = given_first g.world.𝓤 g.world.𝓛 (the_row g.row.K g.row.V g.K.PartialEq (record { hash_input = g.K.Hash.hash_input })) c.args.self _ _ _ _
