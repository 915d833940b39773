use Rattle.std.proofs.Common.{◌≡◌, length, sym, ap, ◌∙◌, arith}
use Rattle.cmdlines_base.specs.Table.{entry_at, entries_of, longer, longest_fit}
use Rattle.cmdlines_base.proofs.NodeLemmas.{below_fits, below_node, bytes_rise, ended, none_fits}
use Rattle.cmdlines_base.proofs.table.TableSearchableArgInfo.search.Goals as goal

pub picked-node-requires : goal.picked-node-requires
picked-node-requires g c =
    let at = c.past_ended.ensures.node in
    record { rising = bytes_rise c.loop-depth.depth c.args.word.now c.past_ended.result.1.now at.rise at.begin c.past_ended.ensures.on }

pub returns-then-is_empty : goal.returns-then-is_empty
returns-then-is_empty g c =
    let d = c.loop-depth.depth in
    let word = c.args.word.now in
    let node = entries_of c.past_ended.result.1.now in
    let below = entries_of c.picked-node.result.now in
    let found = entry_at c.past_ended.result.0 in
    let after : longer found (longest_fit below word) ≡ longer found (longest_fit node word) = ap (longer found) (sym (below_fits d word node below c.loop-depth-test.true c.past_ended.ensures.node c.past_ended.ensures.on c.picked-node.ensures)) in
    let empty : length c.picked-node.result.now ≡ 0 = grind (arith, c.is_empty.ensures, c.if-is_empty.true) in
    sym (ap (longer found) (none_fits word c.picked-node.result.now empty)) ∙ after ∙ c.past_ended.ensures.fit ∙ c.loop-depth.invariant.1

pub loop-depth-preserved : goal.loop-depth-preserved
loop-depth-preserved g c =
    let d = c.loop-depth.depth in
    let word = c.args.word.now in
    let node = entries_of c.past_ended.result.1.now in
    let below = entries_of c.picked-node.result.now in
    let found = entry_at c.past_ended.result.0 in
    let after : longer found (longest_fit below word) ≡ longer found (longest_fit node word) = ap (longer found) (sym (below_fits d word node below c.loop-depth-test.true c.past_ended.ensures.node c.past_ended.ensures.on c.picked-node.ensures)) in
    (below_node d word node below c.loop-depth-test.true c.past_ended.ensures.node c.past_ended.ensures.on c.picked-node.ensures, after ∙ c.past_ended.ensures.fit ∙ c.loop-depth.invariant.1)

pub returns : goal.returns
returns g c =
    let word = c.args.word.now in
    let found = entry_at c.past_ended-2.result.0 in
    sym (ap (longer found) (ended c.loop-depth.depth word (entries_of c.past_ended-2.result.1.now) c.loop-depth-test.false c.past_ended-2.ensures.on)) ∙ c.past_ended-2.ensures.fit ∙ c.loop-depth.invariant.1
