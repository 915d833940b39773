use Rattle.std.proofs.Common.{◌++◌, encode_utf8_all, refl, ap, ◌∙◌}
use Rattle.bstr.specs.Utf8.{lossy_chars}
use Rattle.bstr.proofs.lemmas.LossyLemmas.{lossy_chars-utf8_lossy}
use Rattle.base_files.proofs.lossy.Lossy.text.Goals as goal

pub returns : goal.returns
returns c =
    let shown = encode_utf8_all (lossy_chars c.args.self.bytes.now) in
    c.in_ok-to_str_lossy_into.ensures.ok refl ∙ ap (λ before. before ++ shown) c.new-text.ensures.bytes ∙ lossy_chars-utf8_lossy _
