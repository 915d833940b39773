use Rattle.std.proofs.Common.{◌≡◌, true, false, ap, ◌∙◌}
use Rattle.wrap_base.specs.Commands.{NamedBy, by_c, by_rustc, found_of, named_by}
use Rattle.wrap_keys.specs.RustVerdicts.{is_rust_no_text, is_text}
use Rattle.wrap_keys.proofs.RustTexts.{no_text}
use Rattle.wrap_fingerprints.proofs.fingerprint.request_fingerprint.Goals as goal

pub returns-in-C-clause-no_text : goal.returns-in-C-clause-no_text
returns-in-C-clause-no_text g c h =
    let named : by_c (found_of c.in-C.compiler) ≡ named_by c.args.request.now.compiler = rw c.in-C.is at c.named.ensures in
    let clash : false ≡ true = ap (λ (n : NamedBy). is_rust_no_text n c.args.request.now) named ∙ h in
    cc

pub returns-in-Rustc-clause-no_text : goal.returns-in-Rustc-clause-no_text
returns-in-Rustc-clause-no_text g c h =
    let named : by_rustc c.in-Rustc.rust.now ≡ named_by c.args.request.now.compiler = rw c.in-Rustc.is at c.named.ensures in
    c.of_rustc.ensures.no_text (no_text (is_text c.args.request.now) (ap (λ (n : NamedBy). is_rust_no_text n c.args.request.now) named ∙ h))
