use Rattle.std.proofs.lemmas.Result.{err_from_is_err_and}
use Rattle.base_formats.specs.Reading.{taken_at}
use Rattle.rustc_parts.specs.Reading.{each_at}
use Rattle.rustc_parts.proofs.RowReads.{each-goes_on, each-ends, each-done}
use Rattle.rustc_parts.proofs.reading.read_each.Goals as goal

pub returns-in_err-word : goal.returns-in_err-word
returns-in_err-word c =
    let p = err_from_is_err_and c.from_residual.result c.from_residual.ensures.1 in
    rw (p.1, p.2) (each-ends taken_at c.words.all.items c.args.lengths.now c.words.len-index c.words.rest.now _ 0 c.in_err-word.field-0.0 c.words-test.true c.in_err-word.ensures c.words.invariant)

pub words-preserved : goal.words-preserved
words-preserved c =
    let n = c.in_ok-word.word in
    rw c.in_ok-push.ensures.items (each-goes_on taken_at c.words.all.items c.args.lengths.now c.words.len-index c.words.rest.now (each_at taken_at c.args.lengths.now c.args.bytes.now) 0 n c.in_ok-word.after.now c.words-test.true c.in_ok-word.ensures c.words.invariant)

pub returns : goal.returns
returns c = rw c.from_vec.ensures (each-done taken_at c.words.all.items c.args.lengths.now c.words.len-index c.words.rest.now _ c.words-test.false c.words.invariant)
