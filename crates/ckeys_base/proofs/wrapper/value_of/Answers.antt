use Rattle.std.proofs.Common.{◌≡◌, true, false, ap, sym, ◌∙◌, Some}
use Rattle.std.specs.Str.{bytes_eq}
use Rattle.base_files.specs.Bytes.{Bytes}
use Rattle.ckeys_base.proofs.SearchPath.{lookup-here, lookup-next}
use Rattle.ckeys_base.proofs.wrapper.value_of.Goals as goal

pub returns-then-eq : goal.returns-then-eq
returns-then-eq c =
    let variable = c.loop-variable-item.result in
    let same : bytes_eq c.args.name.now variable.0 ≡ true = ap (λ (x : Bytes). bytes_eq c.args.name.now x) (sym c.as_bytes.ensures) ∙ sym c.if-eq.ensures in
    ap (λ (x : Bytes). Some x) c.as_bytes-then-eq.ensures
    ∙ sym (lookup-here c.args.env.now c.loop-variable.variable-index variable c.args.name.now c.loop-variable-test.true c.loop-variable-item.is same)
    ∙ c.loop-variable.invariant

pub loop-variable-preserved : goal.loop-variable-preserved
loop-variable-preserved c =
    let variable = c.loop-variable-item.result in
    let other : bytes_eq c.args.name.now variable.0 ≡ false = ap (λ (x : Bytes). bytes_eq c.args.name.now x) (sym c.as_bytes.ensures) ∙ sym c.if-eq.ensures in
    sym (lookup-next c.args.env.now c.loop-variable.variable-index variable c.args.name.now c.loop-variable-test.true c.loop-variable-item.is other) ∙ c.loop-variable.invariant
