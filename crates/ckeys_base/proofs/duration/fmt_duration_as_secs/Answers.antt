use Rattle.std.proofs.Common.{◌≡◌, ◌++◌, IfOk, codes, ap, ◌∙◌, arith}
use Rattle.std.specs.Fmt.{decimal, styled_decimal}
use Rattle.std.specs.String.{string_bytes}
use Rattle.ckeys_base.proofs.ThreeDigits.{padded-three}
use Rattle.ckeys_base.proofs.duration.fmt_duration_as_secs.Goals as goal

pub returns : goal.returns
returns c =
    let h : IfOk c.format.result (λ s. string_bytes s ≡ decimal c.as_secs-seconds.result ++ (codes "." ++ (styled_decimal c.laid_out.result c.subsec_millis-milliseconds.result ++ codes " s"))) = c.format.ensures.ok in
    let e = ap (λ s. styled_decimal s c.subsec_millis-milliseconds.result) c.laid_out.ensures ∙ padded-three c.subsec_millis-milliseconds.result (omega arith) in
    rw (e, c.as_secs-seconds.ensures, c.subsec_millis-milliseconds.ensures) at h
