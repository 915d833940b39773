use Rattle.std.proofs.Common.{◌≡◌, sym, ap, subst, [], length}
use Rattle.std.proofs.lemmas.Bool.{eqb-true, eq-eqb}
use Rattle.base_files.specs.Bytes.{Bytes}
use Rattle.ckeys_base.proofs.EscapeReadings.{ReadsTo, reads-step, reads-only, reads-nothing, none-left}
use Rattle.ckeys_base.proofs.unescape.read_escapes.Goals as goal

pub returns-in_default-clause-refused : goal.returns-in_default-clause-refused
returns-in_default-clause-refused c = λ _.
    reads-nothing c.args.text.now c.loop-rest.plain.items c.loop-rest.rest.now c.loop-rest.invariant (sym c.in_default.ensures.value)
    (λ end. let full = eq-eqb (length c.loop-rest.rest.now) 0 (ap length end) in cc (full, c.is_empty.ensures, c.loop-rest-test.true))

pub loop-rest-preserved : goal.loop-rest-preserved
loop-rest-preserved c =
    let P : Bytes → Type 0 = λ plain. ReadsTo c.args.text.now plain c.in-Some.after.now in
    subst P (sym c.in_ok-push.ensures.items)
    (reads-step c.args.text.now c.loop-rest.plain.items c.loop-rest.rest.now c.in-Some.byte c.in-Some.after.now c.loop-rest.invariant (sym c.in-Some.ensures.value))

pub returns-clause-only : goal.returns-clause-only
returns-clause-only c =
    let end : c.loop-rest.rest.now ≡ [] = none-left c.loop-rest.rest.now (eqb-true (length c.loop-rest.rest.now) 0 (sym c.loop-rest-test.ensures)) in
    reads-only c.args.text.now c.loop-rest.plain.items (subst (ReadsTo c.args.text.now c.loop-rest.plain.items) end c.loop-rest.invariant)
