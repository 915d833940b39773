use Rattle.std.proofs.Common.{rules, ap, ◌∙◌}
use Rattle.std.specs.Prelude.{IsPermutation}
use Rattle.std.specs.Ordering.{is_lt}
use Rattle.std.proofs.lemmas.List.MinMax.{ranks_by}
use Rattle.std.proofs.lemmas.List.Sorted.{answers_always}
use Rattle.rustc_parts.specs.Orders.{env_dep_cmp}
use Rattle.rustc_parts.specs.declared.parts.EnvDep.{EnvDep}
use Rattle.rustc_options.specs.SortedLaws.{sorted_is}
use Rattle.rustkeys.proofs.ordered_lists.in_order.Goals as goal

pub returns : goal.returns
returns c =
    let order = c.variables_have_one_order.ensures in
    let ranks = ranks_by order.env_deps (λ (dep : EnvDep). dep) in
    let made = c.sort_unstable_by.new.self.items in
    let same : IsPermutation c.args.deps made = rw c.into_vec-deps.ensures at c.sort_unstable_by.ensures.permutation in
    c.from_vec.ensures
    ∙ sorted_is env_dep_cmp order.env_deps order.env_deps_tie c.args.deps made same
    (c.sort_unstable_by.ensures.sorted (λ x y. is_lt (env_dep_cmp x y)) ranks (answers_always _ _ _ (λ f a r f' k. ap is_lt (search rules))))
