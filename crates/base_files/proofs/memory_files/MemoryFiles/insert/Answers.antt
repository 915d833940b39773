use Rattle.base_files.proofs.MemoryLookups.{node_put, tree_kept}
use Rattle.base_files.proofs.memory_files.MemoryFiles.insert.Goals as goal

pub returns-clause-ok : goal.returns-clause-ok
returns-clause-ok c = rw (← c.self.view_is, c.in_ok-insert.ensures.entries) (tree_kept c.self.inside.files.entries c.args.path c.args.file)

pub returns-clause-found : goal.returns-clause-found
returns-clause-found c = λ name. rw (← c.self.view_is) (node_put c.args.path name c.args.file c.self.inside.files.entries c.insert.new.self.entries (c.in_ok-insert.ensures.updates.0 name))
