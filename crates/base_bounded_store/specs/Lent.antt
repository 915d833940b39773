-- What a bounded store is once a reference into it has ended.
use Rattle.std.specs.Borrow.{Fml, RattleType, MutBor}
use Rattle.std.specs.HashMap.Lent.{HashMembers}
use Rattle.std.specs.Io.BufRead.{Rests}
use Rattle.base_bounded_store.specs.contracts.lru_store.LruStore.{the_row}
use Rattle.base_bounded_store.specs.declared.lru_store.LruStore.{LruStore}

module _ (K V : RattleType) (key : HashMembers K.Denot) where
  -- the store's type, as the logic holds it
  abbrev pub store_row : RattleType
  store_row = the_row K V (record {}) (record { eq = key.eq }) (record { hash_input = key.hash_input })

  -- P holds of the store once what was lent of it ends
  abbrev pub StoreRests : MutBor (LruStore K.Denot V.Denot) → (LruStore K.Denot V.Denot → Type 0) → Fml
  StoreRests s P = Rests store_row s P
