-- What a call leaves as it was.
use Rattle.std.specs.Prelude.{◌≡◌, Result, OnOk}
use Rattle.base_files.specs.Views.{FilesView}
use Rattle.ckeys_records.specs.Causes.{HasOwnFault}
use Rattle.ckeys_records.specs.Views.{AreSteady, ToolView}
use Rattle.ckeys_records.specs.declared.fault.Fault.{Fault}

-- A call of a tool on files: what the files hold and what the tool means are as they were; and where there is an answer, or a fault that reports no I/O error, none occurred.
pub record Untouched {T F A : Type 0} (tool : ToolView T) (files : FilesView F) (tool_old : T) (files_old : F) (tool_new : T) (files_new : F) (result : Result A Fault) : Type 0 where
  pub tree : files.tree files_new ≡ files.tree files_old
  pub meaning : tool.meaning tool_new ≡ tool.meaning tool_old
  pub steady : OnOk result (AreSteady tool files tool_old files_old tool_new files_new)
  pub still : HasOwnFault result → AreSteady tool files tool_old files_old tool_new files_new

-- The same of a call on files alone.
pub record FilesUntouched {F A : Type 0} (files : FilesView F) (old new : F) (result : Result A Fault) : Type 0 where
  pub tree : files.tree new ≡ files.tree old
  pub steady : OnOk result (files.failed new ≡ files.failed old)
  pub still : HasOwnFault result → files.failed new ≡ files.failed old
