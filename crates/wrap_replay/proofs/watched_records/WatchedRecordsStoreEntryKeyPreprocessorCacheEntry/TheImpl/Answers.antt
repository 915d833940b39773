-- A look-up says what its trait asks, and beside it which key is noted.
use denote.Param.{param}
use Rattle.ckeys_base.proofs.Rested.{given_first}
use Rattle.wrap_replay.specs.contracts.watched_records.WatchedRecords.{the_row}
use Rattle.wrap_replay.proofs.watched_records.WatchedRecordsStoreEntryKeyPreprocessorCacheEntry.TheImpl.Goals as goal

pub get-meets : goal.get-meets
get-meets g c = given_first g.world.𝓤 g.world.𝓛 (the_row (param 0 g.row.E)) c.args.self _ _ _ _
