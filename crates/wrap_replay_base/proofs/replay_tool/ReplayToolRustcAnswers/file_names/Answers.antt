use Rattle.std.proofs.Common.{◌≡◌, Some, rules}
use Rattle.wrap_replay_base.specs.Recorded.{on_names}
use Rattle.wrap_replay_base.proofs.Answering.{tells_again}
use Rattle.wrap_replay_base.proofs.replay_tool.ReplayToolRustcAnswers.file_names.Goals as goal

pub returns-then-answers-clause-answer : goal.returns-then-answers-clause-answer
returns-then-answers-clause-answer g c =
    let same = c.answers.ensures.same c.if-answers.true in
    let is : on_names c.args.self.now.rustc ≡ Some c.in-Some.recorded.now = search rules in
    let copied : c.in_ok-clone.field-0 ≡ c.in-Some.recorded.now.printed = search rules in
    tells_again (on_names c.args.self.now.rustc) c.in-Some.recorded.now c.args.command.now.arguments c.args.command.now.cwd c.in_ok-clone.field-0 is same.0 same.1 copied
