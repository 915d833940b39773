-- What clauses see of files, as one value: their map, how many I/O errors there were, and by which call.
use Rattle.base_files.specs.Bytes.{Bytes}
use Rattle.base_files.specs.Fails.{FailsOn}
use Rattle.base_files.specs.declared.files.Files.{Ghosts}

abbrev pub FilesView : Type 0 → Type 1
FilesView F = Ghosts F

-- there was an I/O error on that name, from the one state of the files to the other
abbrev pub FilesFail : {F : Type 0} → FilesView F → F → F → Bytes → Type 0
FilesFail files old new name = FailsOn files.tree files.failed files.fails_on old new name
