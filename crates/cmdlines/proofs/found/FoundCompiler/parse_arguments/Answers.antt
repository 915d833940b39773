use Rattle.cmdlines.proofs.found.FoundCompiler.parse_arguments.Goals as goal

pub returns-clause-decision : goal.returns-clause-decision
returns-clause-decision g c = rw (← c.self.invariant) c.parse_arguments.ensures.decision

pub returns-clause-input : goal.returns-clause-input
returns-clause-input g c = rw (← c.self.invariant) c.parse_arguments.ensures.input
