use Rattle.base_snapshots.proofs.SnapshotLookups.{node_found}
use Rattle.base_snapshots.proofs.files.SnapshotFiles.find.Goals as goal

pub returns : goal.returns
returns c = rw c.get.ensures.value (node_found c.args.self.now.loaded.entries c.args.path.now)
