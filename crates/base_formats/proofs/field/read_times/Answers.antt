use Rattle.std.proofs.lemmas.Result.{err_from_is_err_and}
use Rattle.base_formats.specs.Reading.{times_at}
use Rattle.base_formats.proofs.RepeatedReads.{times-goes_on, times-ends, times-done}
use Rattle.base_formats.proofs.field.read_times.Goals as goal

pub returns-in_err-value : goal.returns-in_err-value
returns-in_err-value g c =
    let p = err_from_is_err_and c.from_residual.result c.from_residual.ensures.1 in
    rw (p.1, p.2) (times-ends g.T.Field.reads c.all.all.items c.args.count c.all.counter c.all.rest.now _ c.in_err-value.field-0.0 c.all-test.true c.in_err-value.ensures c.all.invariant)

pub all-preserved : goal.all-preserved
all-preserved g c =
    let n = c.in_ok-value.value in
    rw c.in_ok-push.ensures.items (times-goes_on g.T.Field.reads c.all.all.items c.args.count c.all.counter c.all.rest.now (times_at g.T.Field.reads c.args.count c.args.bytes.now) n c.in_ok-value.after.now c.all-test.true c.in_ok-value.ensures c.all.invariant)

pub returns : goal.returns
returns g c = times-done g.T.Field.reads c.all.all.items c.args.count c.all.counter c.all.rest.now _ c.all-test.false c.all.invariant
