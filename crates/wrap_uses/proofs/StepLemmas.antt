-- What follows for a step from what a session answers.
use Rattle.std.proofs.Common.{ℕ, Option, Ok}
use Rattle.wrap.specs.Bytes.{Bytes}
use Rattle.wrap.specs.Account.{Account, passed, worked}
use Rattle.wrap.specs.Answers.{Answers, GoesOn, SaysBy}
use Rattle.wrap.specs.Asking.{AskedTurn, Shelves}
use Rattle.ckeys_records.specs.declared.step.Step.{Step}
use Rattle.wrap_base.specs.declared.answer.Answer.{Answer}
use Rattle.wrap_base.specs.declared.answer.Answer.TheVariants.{Pass, Outputs}
use Rattle.wrap_base.specs.declared.answer.How.TheVariants.{Direct, Stored, Fresh}
use Rattle.wrap_uses.specs.Steps.{Costs, GivesFresh, came_to}

-- a step costs what its answer reports
pub costs_of : (digest_of : Bytes → Bytes) (max_kept : Option ℕ) (a : Account) (on_file : Bytes → Type 0) (device_in : Step → Type 0) (answer : Answer) (old new : Shelves) (printed printed_new before after : ℕ) → SaysBy GoesOn a on_file device_in (Ok answer) → AskedTurn digest_of max_kept a old new printed printed_new before after (Ok answer) → Costs (came_to answer) before after
costs_of digest_of max_kept (passed why) on_file device_in (Pass reason) old new printed printed_new before after says turn = turn.objects.told.1
costs_of digest_of max_kept (passed why) on_file device_in (Outputs map how dep_info) old new printed printed_new before after says turn = absurd says
costs_of digest_of max_kept (worked w) on_file device_in (Pass reason) old new printed printed_new before after says turn = absurd says
costs_of digest_of max_kept (worked w) on_file device_in (Outputs map Direct dep_info) old new printed printed_new before after says turn = turn.objects.told.1.2.no_compile
costs_of digest_of max_kept (worked w) on_file device_in (Outputs map Stored dep_info) old new printed printed_new before after says turn = turn.objects.told.2.no_compile
costs_of digest_of max_kept (worked w) on_file device_in (Outputs map Fresh dep_info) old new printed printed_new before after says turn = turn.objects.told.2.miss.compile

-- a step gives what its answer does
pub fresh_of : (a : Account) (answer : Answer) → Answers a (Ok answer) → GivesFresh a (came_to answer)
fresh_of (passed why) (Pass reason) right = tt
fresh_of (passed why) (Outputs map how dep_info) right = tt
fresh_of (worked w) (Pass reason) right = tt
fresh_of (worked w) (Outputs map Direct dep_info) right = right
fresh_of (worked w) (Outputs map Stored dep_info) right = right
fresh_of (worked w) (Outputs map Fresh dep_info) right = right
