use Rattle.std.proofs.Common.{sym, ◌∙◌}
use Rattle.wrap_keys.proofs.JudgeLemmas.{opens_nothing}
use Rattle.wrap_keys.proofs.rust_verdict.after_hazards.Goals as goal

pub returns-in-Ok-false-clause-opens : goal.returns-in-Ok-false-clause-opens
returns-in-Ok-false-clause-opens c = opens_nothing c.commands_open_nothing.ensures.dep_info c.commands_open_nothing.ensures.file_names c.args.parsed (sym c.in-Ok-false.ensures ∙ c.in-Ok-false.field-0-test)
