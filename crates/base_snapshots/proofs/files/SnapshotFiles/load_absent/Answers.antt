use Rattle.base_snapshots.proofs.SnapshotLookups.{known_absent}
use Rattle.base_snapshots.proofs.files.SnapshotFiles.load_absent.Goals as goal

pub returns-clause-known : goal.returns-clause-known
returns-clause-known c = λ name. known_absent c.args.path name _ _ _ _ (c.in_ok-insert.ensures.updates.0 name)
