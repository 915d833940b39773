use Rattle.std.proofs.Common.{rules, ap, ◌∙◌, refl}
use Rattle.std.specs.Str.{is_utf8}
use Rattle.cmdlines_base.proofs.value.path_to_string.Goals as goal

pub returns-in-Ok-clause-text : goal.returns-in-Ok-clause-text
returns-in-Ok-clause-text g c = (c.in-Some.text, record { shown = _; shows = refl; called = c.in-Some.ensures }, search rules)

pub returns-clause-text : goal.returns-clause-text
returns-clause-text g c = (c.in-Some.text, record { shown = _; shows = refl; called = c.in-Some.ensures }, search rules, ap is_utf8 c.in-Err.ensures.back.0 ∙ c.in-Err.ensures.back.1)
