-- Where in a call each fault comes, and what causes it.
use Rattle.std.specs.Prelude.{◌≡◌, ◌⊎◌, Option, None, Some, Result, Ok, Err}
use Rattle.base_files.specs.Bytes.{Bytes}
use Rattle.ckeys_records.specs.declared.fault.Fault.{Fault}
use Rattle.ckeys_records.specs.declared.fault.Fault.TheVariants.{Memory, Read, Tool, PreprocessFailed, CompileFailed, MissingOutput, NoRule, AnswerNotUtf8, BadDigest}
use Rattle.ckeys_records.specs.declared.step.Step.{Step}
use Rattle.ckeys_records.specs.declared.step.Step.TheVariants.{Preprocess, Compile, DepInfo, FileNames, ArchiveDigest}

-- the stages of a call: at any time memory may be refused; then the call comes to its key; and then it is compiled
pub data Stage : Type 0 where
  any_time : Stage
  before_compile : Stage
  in_compile : Stage

abbrev pub stage_in : Step → Stage
stage_in Preprocess = before_compile
stage_in Compile = in_compile
stage_in DepInfo = before_compile
stage_in FileNames = before_compile
stage_in ArchiveDigest = before_compile

-- What a fault reports: out of memory; an I/O error on that file, or that it isn't there; an I/O error of the tool in that step; or what the call itself came to, in that step on the way to its key, or in its compile.
pub data Cause : Type 0 where
  of_memory : Cause
  of_file : Bytes → Cause
  of_tool : Step → Cause
  of_key : Step → Cause
  of_compile : Cause

-- the cause of each fault
abbrev pub cause_of : Fault → Cause
cause_of Memory = of_memory
cause_of (Read name) = of_file name
cause_of (Tool step) = of_tool step
cause_of (PreprocessFailed status) = of_key Preprocess
cause_of (CompileFailed status) = of_compile
cause_of (MissingOutput name) = of_compile
cause_of NoRule = of_key DepInfo
cause_of (AnswerNotUtf8 step) = of_key step
cause_of (BadDigest path) = of_key ArchiveDigest

-- the stage in which a cause comes
abbrev pub stage_by : Cause → Stage
stage_by of_memory = any_time
stage_by (of_file name) = before_compile
stage_by (of_tool step) = stage_in step
stage_by (of_key step) = before_compile
stage_by of_compile = in_compile

-- and so a fault
abbrev pub stage_of : Fault → Stage
stage_of fault = stage_by (cause_of fault)

-- the step of which a cause is, where it is one's
abbrev pub step_by : Cause → Option Step
step_by of_memory = None
step_by (of_file name) = None
step_by (of_tool step) = Some step
step_by (of_key step) = Some step
step_by of_compile = Some Compile

-- and so a fault
abbrev pub step_of : Fault → Option Step
step_of fault = step_by (cause_of fault)

-- what holds at any time, before the compile, or in it
abbrev pub ByStage : Stage → Type 0 → Type 0 → Type 0 → Type 0
ByStage any_time P Q R = P
ByStage before_compile P Q R = Q
ByStage in_compile P Q R = R

-- What causes a fault: out of memory; an I/O error on that file or in that step; and else exactly the first fault in the order of the steps.
abbrev pub IsCausedBy : Option Fault → (Bytes → Type 0) → (Step → Type 0) → Fault → Cause → Type 0
IsCausedBy first on_file in_step fault of_memory = Unit {0}
IsCausedBy first on_file in_step fault (of_file name) = on_file name ⊎ (first ≡ Some fault)
IsCausedBy first on_file in_step fault (of_tool step) = in_step step
IsCausedBy first on_file in_step fault (of_key step) = first ≡ Some fault
IsCausedBy first on_file in_step fault of_compile = first ≡ Some fault

abbrev pub IsCaused : Option Fault → (Bytes → Type 0) → (Step → Type 0) → Fault → Type 0
IsCaused first on_file in_step fault = IsCausedBy first on_file in_step fault (cause_of fault)

-- no file, and no step
abbrev pub no_file : Bytes → Type 0
no_file name = ⊥

abbrev pub no_step : Step → Type 0
no_step step = ⊥

-- it reports no I/O error
abbrev pub IsOwn : Cause → Type 0
IsOwn of_memory = Unit {0}
IsOwn (of_file name) = ⊥
IsOwn (of_tool step) = ⊥
IsOwn (of_key step) = Unit {0}
IsOwn of_compile = Unit {0}

-- there is a fault, and it reports no I/O error
abbrev pub HasOwnFault : {A : Type 0} → Result A Fault → Type 0
HasOwnFault (Ok answer) = ⊥
HasOwnFault (Err fault) = IsOwn (cause_of fault)
