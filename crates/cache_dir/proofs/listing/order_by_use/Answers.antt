use Rattle.std.proofs.Common.{rules}
use Rattle.std.proofs.lemmas.Cmp.{nat_cmp_total}
use Rattle.std.proofs.lemmas.List.Sorted.{IsStrictWeakOrder-flip, answers_always, ranks_by}
use Rattle.cache_dir.specs.Together.{used_later}
use Rattle.cache_dir.specs.declared.listing.KeptFile.{KeptFile}
use Rattle.cache_dir.proofs.listing.order_by_use.Goals as goal

pub returns-clause-order : goal.returns-clause-order
returns-clause-order c = c.sort_unstable_by.ensures.sorted used_later (IsStrictWeakOrder-flip _ (ranks_by nat_cmp_total (λ (f : KeptFile). f.used))) (answers_always _ _ _ (λ a r q k. search rules))
