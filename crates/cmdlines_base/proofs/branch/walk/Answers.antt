use Rattle.std.proofs.Common.{◌+◌, ◌-◌, ◌<◌, ◌≤◌, length, max, ◌∙◌, arith}
use Rattle.cmdlines_base.specs.Reach.{reach}
use Rattle.cmdlines_base.specs.Table.{entries_of}
use Rattle.cmdlines_base.proofs.ReachLemmas.{reach-either, reach-within}
use Rattle.cmdlines_base.proofs.branch.walk.Goals.{else-is_empty-via-then-is_empty+else-is_empty-2, else-is_empty-via-else-is_empty}
use Rattle.cmdlines_base.proofs.branch.walk.Goals as goal

some_left : (g : _) (c : goal.Joined-else-is_empty g) → 0 < length c.step.result.1.now + length c.step-in-nodes.result.1.now
some_left g c = elim c.else-is_empty.branch [
  | else-is_empty-via-then-is_empty+else-is_empty-2 w ↦
      let some : 0 < length c.step-in-nodes.result.1.now = grind (arith, w.is_empty-then-is_empty.ensures, w.if-is_empty-2.false) in
      omega (arith, some)
  | else-is_empty-via-else-is_empty w ↦
      let some : 0 < length c.step.result.1.now = grind (arith, c.is_empty.ensures, w.if-is_empty.false) in
      omega (arith, some)
]

goes_on : (g : _) (c : goal.Joined-else-is_empty g) → c.common_of_both-alike.result + 1 ≤ max (reach (entries_of c.step.result.1.now) c.args.word.now) (reach (entries_of c.step-in-nodes.result.1.now) c.args.word.now)
goes_on g c = reach-either (c.common_of_both-alike.result + 1) c.args.word.now c.step.result.1.now c.step-in-nodes.result.1.now (some_left g c) c.step.ensures.node c.step-in-nodes.ensures.node

within : (g : _) (c : goal.Joined-else-is_empty g) → c.common_of_both-alike.result + 1 ≤ length c.args.word.now
within g c = omega (arith, goes_on g c, reach-within (entries_of c.step.result.1.now) c.args.word.now, reach-within (entries_of c.step-in-nodes.result.1.now) c.args.word.now)

pub overflow_add-depth : goal.overflow_add-depth
overflow_add-depth g c = omega (arith, within g c)

pub overflow_add-steps-in-nodes : goal.overflow_add-steps-in-nodes
overflow_add-steps-in-nodes g c = omega (arith, within g c, c.nodes.invariant.6, c.common_of_both-alike.ensures.least)

pub nodes-smaller : goal.nodes-smaller
nodes-smaller g c =
    let word = c.args.word.now in
    let lt : length word - (c.common_of_both-alike.result + 1) < length word - c.nodes.depth = omega (arith, within g c, c.common_of_both-alike.ensures.least) in
    lt

pub nodes-preserved : goal.nodes-preserved
nodes-preserved g c =
    let inv = c.nodes.invariant in (
      c.step.ensures.node,
      c.step-in-nodes.ensures.node,
      some_left g c,
      c.step.ensures.fit ∙ inv.3,
      c.step-in-nodes.ensures.fit ∙ inv.4,
      omega (arith, inv.5, c.common_of_both-alike.ensures.reached, c.step.ensures.reach, c.step-in-nodes.ensures.reach, goes_on g c),
      omega (arith, inv.6, c.common_of_both-alike.ensures.least),
    )
