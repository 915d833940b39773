use Rattle.std.proofs.Common.{ap, refl}
use Rattle.base_files.specs.Bytes.{ticked}
use Rattle.base_bounded_store.proofs.Promoted.{asks_promoted}
use Rattle.base_bounded_store.proofs.Stores.{makes_first}
use Rattle.base_bounded_store.proofs.lru_store.LruStoreStore.get.Goals as goal

pub returns : goal.returns
returns g c =
    let asks = asks_promoted g.K.PartialEq.eq g.met.K.Eq.laws _ _ _ _ _ _ _ _ (ap (λ l. l.entries) c.get.follows.holds-at-none) c.get.ensures.value in
    let first = makes_first g.K.PartialEq.eq g.met.K.Eq.laws c.args.self.now (record { cache = c.get.follows.lender-at-none; kept = c.args.self.now.kept; cleared = c.args.self.now.cleared; puts = c.args.self.now.puts; gets = ticked c.args.self.now.gets }) c.args.key.now c.keys_differ.ensures c.get.follows.holds-at-none in
    ((refl, λ _. tt, (asks, first)), record { after_borrow = tt })
