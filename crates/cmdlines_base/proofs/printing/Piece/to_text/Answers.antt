use Rattle.std.proofs.Common.{rules, inr, ap, ◌∙◌}
use Rattle.std.specs.Str.{is_utf8}
use Rattle.cmdlines_base.proofs.printing.Piece.to_text.Goals as goal

pub returns-in-Ok-clause-text : goal.returns-in-Ok-clause-text
returns-in-Ok-clause-text g c = rw c.in-Joined.is (c.in_ok-text-in-Joined.text, c.in_ok-text-in-Joined.ensures.text, search rules)

pub returns-clause-text : goal.returns-clause-text
returns-clause-text g c = rw c.in-Joined.is (inr (c.in_ok-text-in-Joined.text, c.in_ok-text-in-Joined.ensures.text, search rules, ap is_utf8 c.in-Err.ensures.back.0 ∙ c.in-Err.ensures.back.1))
