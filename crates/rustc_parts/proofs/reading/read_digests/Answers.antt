use Rattle.std.proofs.lemmas.Result.{err_from_is_err_and}
use Rattle.base_formats.specs.Reading.{times_at}
use Rattle.rustc_parts.specs.Formed.{digest_digits}
use Rattle.rustc_parts.specs.Reading.{digest_at}
use Rattle.rustc_parts.proofs.RowReads.{times-goes_on, times-ends, times-done}
use Rattle.rustc_parts.proofs.reading.read_digests.Goals as goal

pub returns-in_err-digest : goal.returns-in_err-digest
returns-in_err-digest c =
    let p = err_from_is_err_and c.from_residual.result c.from_residual.ensures.1 in
    rw (p.1, p.2) (times-ends (digest_at digest_digits) c.digests.all.items c.args.count c.digests.counter c.digests.rest.now _ c.in_err-digest.field-0.0 c.digests-test.true c.in_err-digest.ensures c.digests.invariant)

pub digests-preserved : goal.digests-preserved
digests-preserved c =
    let n = c.in_ok-digest.digest in
    rw c.in_ok-push.ensures.items (times-goes_on (digest_at digest_digits) c.digests.all.items c.args.count c.digests.counter c.digests.rest.now (times_at (digest_at digest_digits) c.args.count c.args.bytes.now) n c.in_ok-digest.after.now c.digests-test.true c.in_ok-digest.ensures c.digests.invariant)

pub returns : goal.returns
returns c = rw c.from_vec.ensures (times-done (digest_at digest_digits) c.digests.all.items c.args.count c.digests.counter c.digests.rest.now _ c.digests-test.false c.digests.invariant)
