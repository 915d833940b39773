use Rattle.std.proofs.Common.{rules, ap, subst, sym}
use Rattle.std.specs.List.Sorted.{IsSorted}
use Rattle.std.specs.Ordering.{is_lt}
use Rattle.std.proofs.lemmas.List.MinMax.{ranks_by}
use Rattle.std.proofs.lemmas.List.Sorted.{answers_always}
use Rattle.base_files.specs.Bytes.{Bytes}
use Rattle.rustc_parts.specs.Orders.{pair_cmp}
use Rattle.rustc_texts.proofs.variables.in_order.Goals as goal

pub returns-clause-sorted : goal.returns-clause-sorted
returns-clause-sorted c =
    let ranks = ranks_by c.variables_have_one_order.ensures.pairs (λ (pair : Bytes × Bytes). pair) in
    subst (IsSorted pair_cmp) (sym c.from_vec.ensures)
    (c.sort_unstable_by.ensures.sorted (λ x y. is_lt (pair_cmp x y)) ranks (answers_always _ _ _ (λ f a r f' k. ap is_lt (search rules))))
