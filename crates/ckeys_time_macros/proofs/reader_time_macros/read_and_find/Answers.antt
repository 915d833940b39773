use Rattle.ckeys_time_macros.specs.Seen.{HasSeen}
use Rattle.ckeys_time_macros.proofs.Showing.{IsShown-more}
use Rattle.ckeys_time_macros.proofs.reader_time_macros.read_and_find.Goals as goal

pub pieces-preserved : goal.pieces-preserved
pieces-preserved g c = IsShown-more g.H.HashState.holds HasSeen c.args.finder.now (g.R.Read.remaining c.args.reader.now) c.pieces.finder c.find_time_macros.new.self (g.R.Read.remaining c.pieces.reader) (g.R.Read.remaining c.read.new.self) c.pieces.digest c.update.new.self _ c.pieces.invariant c.in_ok-count.ensures.bytes.0 c.update.ensures c.find_time_macros.ensures
