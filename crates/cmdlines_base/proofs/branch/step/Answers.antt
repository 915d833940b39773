use Rattle.std.proofs.Common.{◌<◌, ◌≤◌, length, sym, ap, subst, ◌∙◌, arith, get_or}
use Rattle.cmdlines_base.specs.Nodes.{IsPicked}
use Rattle.cmdlines_base.specs.Table.{entry_at, entries_of, longer}
use Rattle.cmdlines_base.proofs.NodeLemmas.{below_fits, below_node, bytes_rise, ended}
use Rattle.cmdlines_base.proofs.ReachLemmas.{reach-all, reach-below}
use Rattle.cmdlines_base.proofs.branch.step.Goals as goal

pub picked-requires : goal.picked-requires
picked-requires g c =
    let at = c.past_ended.ensures.node in
    record { rising = bytes_rise c.args.depth c.args.word.now c.past_ended.result.1.now at.rise at.begin c.past_ended.ensures.on }

pub returns-in-None-clause-fit : goal.returns-in-None-clause-fit
returns-in-None-clause-fit g c =
    let d = c.args.depth in
    let word = c.args.word.now in
    let le : length word ≤ d = omega (arith, c.in-None.ensures.lookup) in
    sym (ap (longer (entry_at c.past_ended.result.0)) (ended d word (entries_of c.past_ended.result.1.now) le c.past_ended.ensures.on)) ∙ c.past_ended.ensures.fit

pub returns-in-None-clause-reach : goal.returns-in-None-clause-reach
returns-in-None-clause-reach g c =
    let d = c.args.depth in
    let word = c.args.word.now in
    let le : length word ≤ d = omega (arith, c.in-None.ensures.lookup) in
    omega (arith, reach-all d word (entries_of c.args.node.now) le c.requires.node)

pub returns-in-Some-clause-fit : goal.returns-in-Some-clause-fit
returns-in-Some-clause-fit g c =
    let d = c.args.depth in
    let word = c.args.word.now in
    let one = c.past_ended in
    let others = entries_of one.result.1.now in
    let below = entries_of c.picked.result.now in
    let look = c.in-Some.ensures.lookup in
    let lt : d < length word = look.3.0 in
    let has : IsPicked d (get_or word d 0) others below = subst (λ b. IsPicked d b others below) (look.3.1 0) c.picked.ensures in
    ap (longer (entry_at one.result.0)) (sym (below_fits d word others below lt one.ensures.node one.ensures.on has)) ∙ one.ensures.fit

pub returns-in-Some-clause-node : goal.returns-in-Some-clause-node
returns-in-Some-clause-node g c =
    let d = c.args.depth in
    let word = c.args.word.now in
    let one = c.past_ended in
    let others = entries_of one.result.1.now in
    let below = entries_of c.picked.result.now in
    let look = c.in-Some.ensures.lookup in
    let lt : d < length word = look.3.0 in
    let has : IsPicked d (get_or word d 0) others below = subst (λ b. IsPicked d b others below) (look.3.1 0) c.picked.ensures in
    below_node d word others below lt one.ensures.node one.ensures.on has

pub returns-in-Some-clause-reach : goal.returns-in-Some-clause-reach
returns-in-Some-clause-reach g c =
    let d = c.args.depth in
    let word = c.args.word.now in
    let one = c.past_ended in
    let others = entries_of one.result.1.now in
    let below = entries_of c.picked.result.now in
    let look = c.in-Some.ensures.lookup in
    let lt : d < length word = look.3.0 in
    let has : IsPicked d (get_or word d 0) others below = subst (λ b. IsPicked d b others below) (look.3.1 0) c.picked.ensures in
    omega (arith, one.ensures.reach, reach-below d word others below lt one.ensures.node one.ensures.on has)
