use Rattle.base_files.proofs.MemoryLookups.{node_found}
use Rattle.base_files.proofs.memory_files.MemoryFiles.find.Goals as goal

pub returns : goal.returns
returns c = rw (← c.self.view_is, c.get.ensures.value) (node_found c.self.inside.files.entries c.args.path.now)
