use Rattle.std.proofs.Common.{◌≡◌, rules}
use Rattle.wrap_replay_base.proofs.Answering.{prints_again}
use Rattle.wrap_replay_base.proofs.replay_tool.ReplayToolPreprocessor.preprocess.Goals as goal

pub returns-then-answers-clause-answer : goal.returns-then-answers-clause-answer
returns-then-answers-clause-answer g c =
    let same = c.answers.ensures.same c.if-answers.true in
    let copied : c.in_ok-clone.field-0 ≡ c.in-Some.recorded.printed = search rules in
    prints_again c.args.self.now.text c.in-Some.recorded c.args.kind c.args.command.now.arguments c.in_ok-clone.field-0 c.in-Some.is same.0 same.1 copied
