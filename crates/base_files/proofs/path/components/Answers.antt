use Rattle.std.proofs.Common.{ap, ◌∙◌, rules, tests, map, ◌++◌}
use Rattle.std.proofs.lemmas.Iterator.Consumers.{YieldsList-end, YieldsList-from_filter, YieldsList-at}
use Rattle.std.proofs.lemmas.Iterator.Splits.{YieldsList-from_slice_split}
use Rattle.base_files.specs.Path.{start_of, part_in, counts, is_slash}
use Rattle.base_files.proofs.path.components.Goals as goal

pub returns : goal.returns
returns c =
    let done =
    YieldsList-end
    (YieldsList-at c.into_iter-piece-iterator.ensures.into_iter_gives
    (YieldsList-from_filter _ counts
    (YieldsList-at c.filter-piece-items.ensures.source (YieldsList-from_slice_split _ is_slash c.args.path.now c.split.ensures.rest c.split.ensures.done c.split.ensures.closure (λ x b q k. search (rules, tests))))
    c.filter-piece-items.ensures.closure (λ x b q k. search (rules, tests))))
    c.loop-piece.yielded _ c.loop-piece.yielded_by _ _ c.in-None.is c.next.ensures.steps in
    c.loop-piece.invariant ∙ ap (λ ps. start_of c.args.path.now ++ map part_in ps) done.0
