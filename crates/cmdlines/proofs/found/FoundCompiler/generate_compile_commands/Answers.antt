use Rattle.cmdlines.proofs.found.FoundCompiler.generate_compile_commands.Goals as goal

pub returns-clause-again : goal.returns-clause-again
returns-clause-again g c = rw (← c.self.invariant) c.generate_compile_commands.ensures.again
