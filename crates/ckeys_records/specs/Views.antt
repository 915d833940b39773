-- What clauses see of a tool, as one value: its meaning, its ticks, and by which call it had an I/O error.
use Rattle.std.specs.Prelude.{◌≡◌}
use Rattle.base_files.specs.Views.{FilesView}
use Rattle.ckeys_records.specs.Meaning.{FailsIn}
use Rattle.ckeys_records.specs.declared.preprocessor.Preprocessor.{Ghosts}
use Rattle.ckeys_records.specs.declared.step.Step.{Step}

abbrev pub ToolView : Type 0 → Type 1
ToolView T = Ghosts T

-- an I/O error occurred in that step, from the one state of the tool to the other
abbrev pub ToolFails : {T : Type 0} → ToolView T → T → T → Step → Type 0
ToolFails tool old new step = FailsIn tool.meaning tool.failed tool.fails_in old new step

-- neither failure tick has moved: the tool's, and that of its files
abbrev pub AreSteady : {T F : Type 0} → ToolView T → FilesView F → T → F → T → F → Type 0
AreSteady tool files tool_old files_old tool_new files_new = (tool.failed tool_new ≡ tool.failed tool_old) × (files.failed files_new ≡ files.failed files_old)
