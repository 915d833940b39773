use Rattle.ckeys_time_macros.specs.Seen.{HasSeen}
use Rattle.ckeys_time_macros.proofs.Showing.{IsShown}
use Rattle.ckeys_time_macros.proofs.reader_time_macros.read_and_find.Given as goal

abbrev pub invariant-pieces : goal.invariant-pieces
invariant-pieces g l = IsShown g.H.HashState.holds HasSeen l.fn.finder (g.R.Read.remaining l.fn.reader) l.finder (g.R.Read.remaining l.reader) l.digest
