-- What an answer says of its call.
use Rattle.std.specs.Prelude.{◌≡◌, List, Option, Some, None, Result, Ok, Err}
use Rattle.base_files.specs.Bytes.{Bytes}
use Rattle.ckeys.specs.Calls.{PrintedCall}
use Rattle.ckeys_records.specs.Causes.{Stage, any_time, before_compile, in_compile, ByStage, IsCaused, no_file, no_step, stage_of}
use Rattle.ckeys.specs.EntryTurns.{IsSpared}
use Rattle.ckeys_records.specs.declared.fault.Fault.{Fault}
use Rattle.ckeys_records.specs.declared.fault.Fault.TheVariants.{Tool}
use Rattle.ckeys_records.specs.declared.step.Step.{Step}
use Rattle.wrap_keys.specs.Verdicts.{Why, why_of}
use Rattle.wrap_keys.specs.Account.{Account, passed, worked, Work, Pairs, IsSuccess, placed, compile_fault_of}
use Rattle.wrap_base.specs.declared.answer.Answer.{Answer}
use Rattle.wrap_base.specs.declared.answer.Answer.TheVariants.{Pass, Outputs}
use Rattle.wrap_base.specs.declared.answer.Output.{Output}

-- Why there is no verdict: out of memory, or an I/O error on that name while response files were opened.
abbrev pub EarlyCause : (Bytes → Type 0) → Fault → Type 0
EarlyCause on_file fault = IsCaused None on_file no_step fault

-- What an answer says of a request that is passed through: it is, for the verdict's reason, or there was no verdict.
abbrev pub SaysPassed : Why → (Bytes → Type 0) → Result Answer Fault → Type 0
SaysPassed why on_file (Ok (Pass reason)) = why_of reason ≡ why
SaysPassed why on_file (Ok (Outputs map how dep_info)) = ⊥
SaysPassed why on_file (Err fault) = EarlyCause on_file fault

-- What an answer says of another call: outputs come with the call's own text on dependencies, and mean that the call went on past its faults before the store is asked; a fault of the compile means that too, and that the compile caused it; any other one has a cause before it.
abbrev pub SaysWorkedBy : Type 0 → Work → (Bytes → Type 0) → (Step → Type 0) → Result Answer Fault → Type 0
SaysWorkedBy went_on w on_file device_in (Ok (Pass reason)) = ⊥
SaysWorkedBy went_on w on_file device_in (Ok (Outputs map how dep_info)) = (dep_info ≡ w.dep_info) × went_on
SaysWorkedBy went_on w on_file device_in (Err fault) = ByStage (stage_of fault) (Unit {0}) (IsCaused w.fault on_file device_in fault) (went_on × IsCaused (compile_fault_of w) no_file device_in fault)

abbrev pub SaysWorked : Work → (Bytes → Type 0) → (Step → Type 0) → Result Answer Fault → Type 0
SaysWorked w on_file device_in result = SaysWorkedBy (w.fault ≡ None) w on_file device_in result

abbrev pub SaysBy : (Work → Type 0) → Account → (Bytes → Type 0) → (Step → Type 0) → Result Answer Fault → Type 0
SaysBy went_on (passed why) on_file device_in result = SaysPassed why on_file result
SaysBy went_on (worked w) on_file device_in result = SaysWorkedBy (went_on w) w on_file device_in result

-- Outputs mean that the call has no fault before the store is asked.
abbrev pub Says : Account → (Bytes → Type 0) → (Step → Type 0) → Result Answer Fault → Type 0
Says a on_file device_in result = SaysBy (λ w. w.fault ≡ None) a on_file device_in result

-- A call goes on: it has no fault before the store is asked; or, where it has an entry key, none but the preprocessor's, which a record can spare it.
abbrev pub GoesOnWith : Option PrintedCall → Option Fault → Type 0
GoesOnWith None fault = fault ≡ None
GoesOnWith (Some p) fault = IsSpared fault

abbrev pub GoesOn : Work → Type 0
GoesOn w = GoesOnWith w.direct w.fault

-- a fact where the request is passed through
abbrev pub OnPass : Result Answer Fault → Type 0 → Type 0
OnPass (Ok (Pass reason)) P = P
OnPass (Ok (Outputs map how dep_info)) P = Unit {0}
OnPass (Err fault) P = Unit {0}

-- outputs on a call's own paths, of which something holds
abbrev pub Placed : Work → List Output → (Pairs → Type 0) → Type 0
Placed w map P = (pairs : Pairs) × (map ≡ placed w.outputs pairs) × P pairs

-- outputs are those that the call's compiler gives afresh
abbrev pub Answers : Account → Result Answer Fault → Type 0
Answers (passed why) result = Unit {0}
Answers (worked w) (Ok (Pass reason)) = Unit {0}
Answers (worked w) (Ok (Outputs map how dep_info)) = Placed w map (IsSuccess w)
Answers (worked w) (Err fault) = Unit {0}

-- what a call comes to before its compile, without out of memory and I/O errors
pub data Settled : Type 0 where
  is_passed : Why → Settled
  has_fault : Fault → Settled
  goes_on : Settled

abbrev pub settled_at : Option Fault → Settled
settled_at (Some fault) = has_fault fault
settled_at None = goes_on

abbrev pub settled : Account → Settled
settled (passed why) = is_passed why
settled (worked w) = settled_at w.fault

-- what a fault that comes in that stage says of it
abbrev pub settled_in : Stage → Fault → Settled
settled_in any_time fault = has_fault fault
settled_in before_compile fault = has_fault fault
settled_in in_compile fault = goes_on

-- what an answer comes to, before the compile; an I/O error in any step is a fault
abbrev pub settled_by : Result Answer Fault → Settled
settled_by (Ok (Pass reason)) = is_passed (why_of reason)
settled_by (Ok (Outputs map how dep_info)) = goes_on
settled_by (Err (Tool step)) = has_fault (Tool step)
settled_by (Err fault) = settled_in (stage_of fault) fault
