use Rattle.std.proofs.Common.{subst, ◌∙◌}
use Rattle.std.specs.Str.{IsUtf8}
use Rattle.std.proofs.lemmas.Str.{IsUtf8-string_bytes}
use Rattle.base_formats.specs.Spelling.{FitsFrame}
use Rattle.ckeys_include_records.proofs.key_text.KeyTextField.put.Goals as goal

pub returns-clause-fits : goal.returns-clause-fits
returns-clause-fits c = (subst IsUtf8 c.self.view_is (IsUtf8-string_bytes c.self.inside.text), subst FitsFrame (c.as_bytes.ensures.value ∙ c.self.view_is) c.put_framed.ensures.fits)
