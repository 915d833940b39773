use Rattle.base_snapshots.proofs.SnapshotLookups.{known_loaded, node_put}
use Rattle.base_snapshots.proofs.files.SnapshotFiles.load.Goals as goal

pub returns-clause-found : goal.returns-clause-found
returns-clause-found c = λ name. node_put c.args.path name c.args.file c.args.self.now.loaded.entries _ (c.in_ok-insert.ensures.updates.0 name)

pub returns-clause-known : goal.returns-clause-known
returns-clause-known c = λ name. known_loaded c.args.path name c.args.file _ _ _ (c.in_ok-insert.ensures.updates.0 name)
