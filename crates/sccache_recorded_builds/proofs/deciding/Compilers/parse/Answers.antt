use Rattle.sccache_recorded_builds.proofs.deciding.Compilers.parse.Goals as goal

pub returns-clause-decision : goal.returns-clause-decision
returns-clause-decision g c = rw (← c.of.ensures) c.parse_arguments.ensures.decision
