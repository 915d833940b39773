use Rattle.std.proofs.Common.{◌∙◌}
use Rattle.std.proofs.lemmas.Result.{err_from_is_err_and}
use Rattle.base_formats.proofs.Texts.{text-read, text-refused, unframed}
use Rattle.base_formats.proofs.fields.read_text.Goals as goal

pub returns-in_ok-from_str-in-Ok : goal.returns-in_ok-from_str-in-Ok
returns-in_ok-from_str-in-Ok c =
    rw (c.in_ok-from_str-in-Ok.ensures.ok ∙ c.in-Ok.ensures.cases.0) (text-read c.args.bytes.now _ c.in_ok-front.ensures.value c.in-Ok.ensures.cases.1)

pub returns-in-Err : goal.returns-in-Err
returns-in-Err c = text-refused c.args.bytes.now _ c.in_ok-front.ensures.value c.in-Err.ensures.cases.0

pub returns-in_err-front : goal.returns-in_err-front
returns-in_err-front c =
    let p = err_from_is_err_and c.from_residual.result c.from_residual.ensures.1 in
    rw (p.1, p.2) (unframed c.args.bytes.now c.in_err-front.field-0.0 c.in_err-front.ensures.value)
