use Rattle.std.proofs.Common.{[]}
use Rattle.ckeys_time_macros.proofs.reader_time_macros.reader_sync_time_macros.Goals as goal

pub returns-clause-told : goal.returns-clause-told
returns-clause-told g c = let e = c.in_ok-text.ensures.told in (e.0, e.1, e.2, e.3 [] c.new-finder.ensures)
