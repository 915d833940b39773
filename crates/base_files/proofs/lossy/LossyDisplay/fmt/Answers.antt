use Rattle.std.proofs.Common.{encode_utf8_all, ap, ◌∙◌}
use Rattle.std.proofs.Output.{has_written_of_eq}
use Rattle.bstr.specs.Utf8.{lossy_chars}
use Rattle.bstr.proofs.lemmas.LossyLemmas.{lossy_chars-utf8_lossy}
use Rattle.base_files.proofs.lossy.LossyDisplay.fmt.Goals as goal

pub returns-clause-writes : goal.returns-clause-writes
returns-clause-writes g c = λ plain ok.
    let shown = ap (λ bytes. encode_utf8_all (lossy_chars bytes)) c.new.ensures in
    has_written_of_eq _ _ _ _ _ (shown ∙ lossy_chars-utf8_lossy _) (c.fmt.ensures.writes plain ok)
