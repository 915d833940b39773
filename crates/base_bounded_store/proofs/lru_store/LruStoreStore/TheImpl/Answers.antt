-- A look-up says what its trait asks, and beside it how the order of use moved.
use denote.Param.{param}
use Rattle.ckeys_base.proofs.Rested.{given_first}
use Rattle.base_bounded_store.specs.Lent.{store_row}
use Rattle.base_bounded_store.proofs.lru_store.LruStoreStore.TheImpl.Goals as goal

pub get-meets : goal.get-meets
get-meets g c = given_first g.world.𝓤 g.world.𝓛 (store_row (param 0 g.row.K) (param 1 g.row.V) (record { eq = g.K.PartialEq.eq; hash_input = g.K.Hash.hash_input })) c.args.self _ _ _ _
