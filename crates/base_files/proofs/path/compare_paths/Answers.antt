use Rattle.std.proofs.Common.{◌≡◌, rules, tests}
use Rattle.std.proofs.lemmas.Iterator.{YieldsList-from_map_by}
use Rattle.std.proofs.lemmas.Iterator.Adapters.{YieldsList-from_once}
use Rattle.std.proofs.lemmas.Iterator.Consumers.{YieldsList-at, YieldsList-from_chain, YieldsList-from_filter}
use Rattle.std.proofs.lemmas.Iterator.Search.{cmp_from_yields_List}
use Rattle.std.proofs.lemmas.Iterator.Splits.{YieldsList-from_slice_split}
use Rattle.std.specs.Cmp.Lexicographic.{slice_cmp}
use Rattle.std.specs.Ordering.{nat_cmp}
use Rattle.base_files.specs.Path.{components, counts, is_slash, part_cmp, part_in, part_of}
use Rattle.base_files.proofs.PathOrder.{YieldsList-viewed, part_order, start_yielded, then_order}
use Rattle.base_files.proofs.path.compare_paths.Goals as goal

pub returns : goal.returns
returns c =
    let order : c.cmp.result ≡ slice_cmp part_cmp (components c.args.left.now) (components c.args.right.now) =
    cmp_from_yields_List (λ x y. y ≡ x) _ part_cmp _ c.cmp.ensures.ran
    (YieldsList-from_chain
    (YieldsList-at c.chain.ensures.first (start_yielded c.start_of-2.result c.start_of-2.ensures (YieldsList-viewed part_of (YieldsList-from_once c.start_of-2.result c.into_iter-2.ensures.into_iter_gives.0))))
    (YieldsList-at c.chain.ensures.second
    (YieldsList-from_map_by _ part_of part_in
    (YieldsList-at c.map-2.ensures.source
    (YieldsList-from_filter _ counts
    (YieldsList-at c.filter-2.ensures.source (YieldsList-from_slice_split _ is_slash c.args.left.now c.split-2.ensures.rest c.split-2.ensures.done c.split-2.ensures.closure (λ x b q k. search (rules, tests))))
    c.filter-2.ensures.closure (λ x b q k. search (rules, tests))))
    c.map-2.ensures.closure (λ x r q k. search (rules, tests))))
    c.chain.ensures.first_done c.chain.ensures.second_done)
    (λ it e. YieldsList-at e
    (YieldsList-from_chain
    (YieldsList-at c.chain-others.ensures.first (start_yielded c.start_of.result c.start_of.ensures (YieldsList-viewed part_of (YieldsList-from_once c.start_of.result c.into_iter.ensures.into_iter_gives.0))))
    (YieldsList-at c.chain-others.ensures.second
    (YieldsList-from_map_by _ part_of part_in
    (YieldsList-at c.map.ensures.source
    (YieldsList-from_filter _ counts
    (YieldsList-at c.filter.ensures.source (YieldsList-from_slice_split _ is_slash c.args.right.now c.split.ensures.rest c.split.ensures.done c.split.ensures.closure (λ x b q k. search (rules, tests))))
    c.filter.ensures.closure (λ x b q k. search (rules, tests))))
    c.map.ensures.closure (λ x r q k. search (rules, tests))))
    c.chain-others.ensures.first_done c.chain-others.ensures.second_done))
    part_order in
    then_order _ _ _ (slice_cmp nat_cmp c.args.left.now c.args.right.now) order c.then_with.ensures (λ post. search (rules, tests))
