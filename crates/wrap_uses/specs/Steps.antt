-- What came of a build's step, and what it cost.
use Rattle.std.specs.Prelude.{◌≡◌, ℕ}
use Rattle.wrap.specs.Bytes.{ticked}
use Rattle.wrap.specs.Account.{Account, passed, worked, IsSuccess}
use Rattle.wrap.specs.Answers.{Placed}
use Rattle.wrap_base.specs.declared.answer.Answer.{Answer}
use Rattle.wrap_base.specs.declared.answer.Answer.TheVariants.{Pass, Outputs}
use Rattle.wrap_base.specs.declared.answer.How.TheVariants.{Direct, Stored, Fresh}
use Rattle.wrap_uses.specs.declared.step.Outcome.{Outcome}
use Rattle.wrap_uses.specs.declared.step.Outcome.TheVariants.{RunItYourself, Kept, Made}

-- what comes of a step that is answered so
abbrev pub came_to : Answer → Outcome
came_to (Pass reason) = RunItYourself reason
came_to (Outputs map Direct dep_info) = Kept map
came_to (Outputs map Stored dep_info) = Kept map
came_to (Outputs map Fresh dep_info) = Made map

-- how often the compiler ran: once for what was made, and else not at all
abbrev pub Costs : Outcome → ℕ → ℕ → Type 0
Costs (RunItYourself reason) before after = after ≡ before
Costs (Kept outputs) before after = after ≡ before
Costs (Made outputs) before after = after ≡ ticked before

-- outputs, kept or made, are those that the step's compiler gives afresh
abbrev pub GivesFresh : Account → Outcome → Type 0
GivesFresh (passed why) outcome = Unit {0}
GivesFresh (worked w) (RunItYourself reason) = Unit {0}
GivesFresh (worked w) (Kept outputs) = Placed w outputs (IsSuccess w)
GivesFresh (worked w) (Made outputs) = Placed w outputs (IsSuccess w)
