use Rattle.base_files.proofs.MemoryLookups.{no_folder}
use Rattle.base_files.proofs.memory_files.MemoryFilesFiles.is_dir.Goals as goal

pub returns-clause-answer : goal.returns-clause-answer
returns-clause-answer c = rw (← c.self.view_is) (no_folder c.self.inside.files.entries c.args._path.now)
