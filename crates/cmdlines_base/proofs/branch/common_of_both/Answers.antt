use Rattle.std.proofs.Common.{◌≡◌, ◌<◌, length, arith}
use Rattle.cmdlines_base.specs.Table.{entries_of}
use Rattle.cmdlines_base.proofs.NodeLemmas.{node_less}
use Rattle.cmdlines_base.proofs.ReachLemmas.{reach-some}
use Rattle.cmdlines_base.proofs.branch.common_of_both.Goals as goal

pub returns-then-is_empty-clause-reached : goal.returns-then-is_empty-clause-reached
returns-then-is_empty-clause-reached g c =
    let none : length c.args.second.now ≡ 0 = grind (arith, c.is_empty.ensures, c.if-is_empty.true) in
    let some : 0 < length c.args.first.now = omega (arith, c.requires.some, none) in
    omega (arith, reach-some c.common.result c.args.word.now c.args.first.now some c.common.ensures.node)

pub returns-then-is_empty-2-clause-reached : goal.returns-then-is_empty-2-clause-reached
returns-then-is_empty-2-clause-reached g c =
    let none : length c.args.first.now ≡ 0 = grind (arith, c.is_empty-2.ensures, c.if-is_empty-2.true) in
    let some : 0 < length c.args.second.now = omega (arith, c.requires.some, none) in
    omega (arith, reach-some c.common-then-is_empty-2.result c.args.word.now c.args.second.now some c.common-then-is_empty-2.ensures.node)

pub returns-clause-first : goal.returns-clause-first
returns-clause-first g c = node_less c.common-2.result c.min.result c.args.word.now (entries_of c.args.first.now) (omega (arith, c.min.ensures)) c.common-2.ensures.node

pub returns-clause-second : goal.returns-clause-second
returns-clause-second g c = node_less c.common-3.result c.min.result c.args.word.now (entries_of c.args.second.now) (omega (arith, c.min.ensures)) c.common-3.ensures.node

pub returns-clause-reached : goal.returns-clause-reached
returns-clause-reached g c =
    let some : 0 < length c.args.first.now = grind (arith, c.is_empty-2.ensures, c.if-is_empty-2.false) in
    omega (arith, c.min.ensures, reach-some c.common-2.result c.args.word.now c.args.first.now some c.common-2.ensures.node)
