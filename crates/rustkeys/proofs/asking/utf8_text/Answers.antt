use Rattle.std.proofs.Common.{subst, ◌∙◌}
use Rattle.std.specs.Str.{IsUtf8}
use Rattle.std.proofs.lemmas.Str.{IsUtf8-string_bytes}
use Rattle.rustkeys.proofs.TextLemmas.{utf8_fine}
use Rattle.rustkeys.proofs.asking.utf8_text.Goals as goal

pub returns-in-Ok-clause-fine : goal.returns-in-Ok-clause-fine
returns-in-Ok-clause-fine c = utf8_fine c.args.step c.args.bytes (subst IsUtf8 ((λ i. (c.in-Ok.ensures.ok i).items) ∙ c.into_vec.ensures) (IsUtf8-string_bytes c.in-Ok.text))
