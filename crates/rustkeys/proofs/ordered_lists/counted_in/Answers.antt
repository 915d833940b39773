use Rattle.std.specs.Prelude.{filter}
use Rattle.base_files.specs.Bytes.{Bytes}
use Rattle.rustc_parts.specs.Orders.{pair_cmp}
use Rattle.rustc_texts.specs.Variables.{counts}
use Rattle.rustkeys.proofs.SortLemmas.{in_order_is}
use Rattle.rustkeys.proofs.ordered_lists.counted_in.Goals as goal

pub returns : goal.returns
returns c =
    let order = c.variables_have_one_order.ensures in
    in_order_is pair_cmp order.pairs order.pairs_tie (filter (λ (pair : Bytes × Bytes). counts pair.0) c.args.env.now) c.hashed_variables.result c.hashed_variables.ensures.same c.hashed_variables.ensures.sorted
