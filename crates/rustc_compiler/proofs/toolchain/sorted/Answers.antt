use Rattle.std.proofs.Common.{rules, ap, ◌∙◌}
use Rattle.std.specs.Ordering.{is_lt}
use Rattle.std.proofs.lemmas.List.MinMax.{ranks_by}
use Rattle.std.proofs.lemmas.List.Sorted.{answers_always}
use Rattle.base_files.specs.Bytes.{Bytes}
use Rattle.base_files.specs.Path.{path_cmp}
use Rattle.rustc_options.specs.SortedLaws.{sorted_is}
use Rattle.rustc_compiler.proofs.toolchain.sorted.Goals as goal

pub returns : goal.returns
returns c =
    let order = c.paths_have_one_order.ensures in
    let ranks = ranks_by order.total (λ (path : Bytes). path) in
    let made = c.sort_unstable_by.new.self.items in
    c.from_vec.ensures
    ∙ sorted_is path_cmp order.total order.ties c.args.paths.items made c.sort_unstable_by.ensures.permutation
    (c.sort_unstable_by.ensures.sorted (λ x y. is_lt (path_cmp x y)) ranks (answers_always _ _ _ (λ f a r f' k. ap is_lt (search rules))))
