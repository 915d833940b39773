use Rattle.std.proofs.Common.{◌<◌, arith, length, of_calls, refl, take}
use Rattle.std.proofs.lemmas.Fn.{called_at}
use Rattle.std.proofs.lemmas.List.{length-take}
use Rattle.ckeys_base.proofs.Feeding.{IsFed-more}
use Rattle.ckeys_base.proofs.digest.Digest.read_pieces.Goals as goal

pub pieces-preserved : goal.pieces-preserved
pieces-preserved g c =
    let some : 0 < length (take c.in_ok-count.count c.read.new.buf) = omega (arith, length-take c.in_ok-count.count c.read.new.buf, c.in_ok-count.ensures.bound.0, c.if-count-eq0.false) in
    (search of_calls, IsFed-more g.F.FnMut g.H.HashState.holds c.args.each (g.R.Read.remaining c.args.reader.now) c.pieces.each c.each.new.self (g.R.Read.remaining c.pieces.reader) (g.R.Read.remaining c.read.new.self) c.pieces.digest c.update.new.self _ c.pieces.invariant.1 (called_at g.F.FnMut c.each.ensures refl) some c.in_ok-count.ensures.bytes.0 c.update.ensures)
