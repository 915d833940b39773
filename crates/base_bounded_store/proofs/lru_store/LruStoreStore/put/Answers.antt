use Rattle.std.proofs.Common.{refl}
use Rattle.base_files.specs.Bytes.{ticked}
use Rattle.base_bounded_store.proofs.Stores.{in_order, refused, stored}
use Rattle.base_bounded_store.proofs.lru_store.LruStoreStore.put.Goals as goal

pub returns-in-Ok-clause-stored : goal.returns-in-Ok-clause-stored
returns-in-Ok-clause-stored g c = stored g.K.PartialEq.eq g.met.K.Eq.laws c.args.self.now (record { cache = c.put.new.self; kept = c.keeps_all_with-kept.result; cleared = c.args.self.now.cleared; puts = ticked c.args.self.now.puts; gets = c.args.self.now.gets }) c.args.key c.args.value c.keys_differ.ensures c.in-Ok.ensures.entries c.keeps_all_with-kept.ensures refl refl refl

pub returns-in-Ok-clause-order : goal.returns-in-Ok-clause-order
returns-in-Ok-clause-order g c = in_order g.K.PartialEq.eq g.met.K.Eq.laws c.args.self.now (record { cache = c.put.new.self; kept = c.keeps_all_with-kept.result; cleared = c.args.self.now.cleared; puts = ticked c.args.self.now.puts; gets = c.args.self.now.gets }) c.args.key c.args.value c.keys_differ.ensures c.in-Ok.ensures.entries c.keeps_all_with-kept.ensures

pub returns-clause-order : goal.returns-clause-order
returns-clause-order g c = refused g.K.PartialEq.eq g.met.K.Eq.laws c.args.self.now _ c.args.key c.args.value c.keys_differ.ensures c.in-Err.failed.value c.in-Err.ensures.err refl (λ s. let never = c.in-Err.ensures.succeeds s in cc)
