use Rattle.std.proofs.Common.{◌≡◌, Some, rules}
use Rattle.wrap_replay_base.specs.Recorded.{crate_of}
use Rattle.wrap_replay_base.proofs.Answering.{compiles_again, crates_again}
use Rattle.wrap_replay_base.proofs.replay_tool.ReplayToolTool.compile.Goals as goal

pub returns-then-answers-clause-answer : goal.returns-then-answers-clause-answer
returns-then-answers-clause-answer g c =
    let same = c.answers.ensures.same c.if-answers.true in
    compiles_again c.args.self.now.outputs (crate_of c.args.self.now.rustc) c.args.command.now.cwd c.in-Some.recorded c.args.kind c.args.command.now.arguments c.args.outputs.now c.in_ok-made_again.field-0 c.in-Some.is same.0 same.1 same.2 c.in_ok-made_again.ensures

pub returns-then-answers-2-clause-answer : goal.returns-then-answers-2-clause-answer
returns-then-answers-2-clause-answer g c =
    let same = c.answers-in-Some-made_crate.ensures.same c.if-answers-2.true in
    let is : crate_of c.args.self.now.rustc ≡ Some c.in-Some-made_crate.recorded.now = search rules in
    crates_again c.args.self.now.outputs (crate_of c.args.self.now.rustc) c.in-Some-made_crate.recorded.now c.args.kind c.args.command.now.arguments c.args.command.now.cwd c.args.outputs.now c.in_ok-made_again-2.field-0 is same.0 same.1 same.2 same.3 c.in_ok-made_again-2.ensures
