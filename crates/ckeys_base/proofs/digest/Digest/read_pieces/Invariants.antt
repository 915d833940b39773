use Rattle.ckeys_base.proofs.Feeding.{IsFed}
use Rattle.ckeys_base.proofs.digest.Digest.read_pieces.Given as goal

abbrev pub invariant-pieces : goal.invariant-pieces
invariant-pieces g l = goal.F-IsAlwaysCallable g l.each × IsFed g.F.FnMut g.H.HashState.holds l.fn.each (g.R.Read.remaining l.fn.reader) l.each (g.R.Read.remaining l.reader) l.digest
