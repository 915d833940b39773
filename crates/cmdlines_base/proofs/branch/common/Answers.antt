use Rattle.std.proofs.Common.{◌≡◌, ◌<◌, length, get_or, sym, ap, arith}
use Rattle.cmdlines_base.specs.Nodes.{byte_at}
use Rattle.cmdlines_base.specs.Table.{entry_of}
use Rattle.cmdlines_base.proofs.NodeLemmas.{goes_alike}
use Rattle.cmdlines_base.proofs.branch.common.Goals as goal

pub loop-depth-preserved : goal.loop-depth-preserved
loop-depth-preserved g c =
    let d = c.loop-depth.depth in
    let word = c.args.word.now in
    let a = c.in-Some.first.now in
    let b = c.in-Some-last.last.now in
    let on : d < length (entry_of a).flag = omega (arith, c.loop-depth-test.true, ap length c.as_bytes-low.ensures.value, ap length c.flag.ensures) in
    let low : byte_at d (entry_of a) ≡ get_or word d 0 = grind (arith, c.if-low-depth.true, c.flag.ensures, c.as_bytes-low.ensures.value) in
    let high : byte_at d (entry_of b) ≡ get_or word d 0 = grind (arith, c.if-high-depth.true, c.flag-2.ensures, c.as_bytes-high.ensures.value) in
    (goes_alike d word c.args.node.now a b (sym c.in-Some.ensures.value) (sym c.in-Some-last.ensures.value) (omega (arith, c.if-depth-word.true)) on low high c.loop-depth.invariant.0, omega (arith, c.loop-depth.invariant.1))
