use Rattle.std.proofs.Common.{◌≡◌, ap}
use Rattle.cmdlines.specs.Compilers.{Found}
use Rattle.cmdlines.proofs.any_found.AnyFoundCompiler.generate_compile_commands.Goals as goal

pub returns-clause-again : goal.returns-clause-again
returns-clause-again c =
    let kind : c.self.inside.kind ≡ c.args.self.now.kind = ap (λ (f : Found). f.kind) c.self.view_is in
    rw (← kind) c.compile_command.ensures.again
