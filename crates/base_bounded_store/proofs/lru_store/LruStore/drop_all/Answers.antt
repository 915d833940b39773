use Rattle.std.proofs.Common.{◌≡◌, ◌↔◌, true, length, ap}
use Rattle.lru.specs.LruCache.{LruCache}
use Rattle.ckeys_base.proofs.EmptiedShelf.{keeps_none}
use Rattle.base_bounded_store.proofs.Emptiness.{tells_none}
use Rattle.base_bounded_store.proofs.lru_store.LruStore.drop_all.Goals as goal
use Rattle.base_bounded_store.proofs.lru_store.LruStore.drop_all.Goals.{then-self, else-self}

pub returns-clause-kept : goal.returns-clause-kept
returns-clause-kept g c =
    let was : (c.if-self.self ≡ true) ↔ ((c.args.self.now.kept ≡ true) × (length c.args.self.now.cache.entries ≡ 0)) =
    elim c.if-self.branch [
      | then-self w ↦
          let told = tells_none (length c.args.self.now.cache.entries) w.is_empty-self.result w.is_empty-self.ensures in
          (λ h. (w.if-self.true, told.0 (cc)), λ p. cc (told.1 p.1))
      | else-self w ↦ (λ h. cc, λ p. cc)
    ] in
    keeps_none g.K.PartialEq.eq c.keys_are_themselves.ensures c.args.self.now.cache.entries _ (ap (λ (l : LruCache g.row.K.Denot g.row.V.Denot). l.entries) c.clear.ensures) c.args.self.now.kept c.if-self.self was
