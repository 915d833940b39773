-- What comes with outputs.
use Rattle.std.specs.Prelude.{◌≡◌, Result, Ok, Err}
use Rattle.ckeys_records.specs.declared.fault.Fault.{Fault}
use Rattle.wrap.specs.Account.{Account, passed, worked}
use Rattle.wrap_base.specs.declared.answer.Answer.{Answer}
use Rattle.wrap_base.specs.declared.answer.Answer.TheVariants.{Pass, Outputs}

-- outputs come with the call's own text on dependencies, where it asks for one
abbrev pub TellsOwnDependencies : Account → Result Answer Fault → Type 0
TellsOwnDependencies (passed why) result = Unit {0}
TellsOwnDependencies (worked w) (Ok (Pass reason)) = Unit {0}
TellsOwnDependencies (worked w) (Ok (Outputs map how dep_info)) = dep_info ≡ w.dep_info
TellsOwnDependencies (worked w) (Err fault) = Unit {0}
