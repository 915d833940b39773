use Rattle.std.proofs.lemmas.Result.{err_from_is_err_and}
use Rattle.base_formats.specs.Reading.{times_at}
use Rattle.rustc_parts.specs.Reading.{pair_at}
use Rattle.rustc_parts.proofs.RowReads.{times-goes_on, times-ends, times-done}
use Rattle.rustc_parts.proofs.reading.read_pairs.Goals as goal

pub returns-in_err-pair : goal.returns-in_err-pair
returns-in_err-pair c =
    let p = err_from_is_err_and c.from_residual.result c.from_residual.ensures.1 in
    rw (p.1, p.2) (times-ends pair_at c.pairs.all.items c.args.count c.pairs.counter c.pairs.rest.now _ c.in_err-pair.field-0.0 c.pairs-test.true c.in_err-pair.ensures c.pairs.invariant)

pub pairs-preserved : goal.pairs-preserved
pairs-preserved c =
    let n = c.in_ok-pair.pair in
    rw c.in_ok-push.ensures.items (times-goes_on pair_at c.pairs.all.items c.args.count c.pairs.counter c.pairs.rest.now (times_at pair_at c.args.count c.args.bytes.now) n c.in_ok-pair.after.now c.pairs-test.true c.in_ok-pair.ensures c.pairs.invariant)

pub returns : goal.returns
returns c = rw c.from_vec.ensures (times-done pair_at c.pairs.all.items c.args.count c.pairs.counter c.pairs.rest.now _ c.pairs-test.false c.pairs.invariant)
