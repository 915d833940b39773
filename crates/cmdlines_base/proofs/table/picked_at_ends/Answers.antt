use Rattle.std.proofs.Common.{sym, ◌∙◌, arith}
use Rattle.cmdlines_base.specs.Table.{entries_of}
use Rattle.cmdlines_base.proofs.NodeLemmas.{ends_tell, high_tells, low_tells, nothing_picked, whole_picked}
use Rattle.cmdlines_base.proofs.table.picked_at_ends.Goals.{then-byte-least-via-then-byte-least, then-byte-least-via-else-byte-least+then-most-byte}
use Rattle.cmdlines_base.proofs.table.picked_at_ends.Goals as goal

pub returns-in_default : goal.returns-in_default
returns-in_default g c = nothing_picked c.args.depth c.args.byte c.args.entries.now (sym c.in_default.ensures.value)

pub returns-then-byte-least : goal.returns-then-byte-least
returns-then-byte-least g c =
    let d = c.args.depth in
    let byte = c.args.byte in
    let xs = c.args.entries.now in
    elim c.then-byte-least.branch [
      | then-byte-least-via-then-byte-least w ↦ low_tells d byte xs c.in-Some.first.now c.requires.rising (sym c.in-Some.ensures.value) (omega (arith, w.if-byte-least.true, c.byte_at-least.ensures))
      | then-byte-least-via-else-byte-least+then-most-byte w ↦ high_tells d byte xs c.in-Some-last.last.now c.requires.rising (sym c.in-Some-last.ensures.value) (omega (arith, w.if-most-byte.true, c.byte_at-most.ensures))
    ]

pub returns-then-most-byte-2 : goal.returns-then-most-byte-2
returns-then-most-byte-2 g c =
    whole_picked c.args.depth c.args.byte (entries_of c.args.entries.now)
    (ends_tell c.args.depth c.args.byte c.args.entries.now c.in-Some.first.now c.in-Some-last.last.now c.requires.rising
    (sym c.in-Some.ensures.value) (sym c.in-Some-last.ensures.value)
    (sym c.byte_at-least.ensures ∙ c.if-least-byte.true)
    (sym c.byte_at-most.ensures ∙ c.if-most-byte-2.true))
