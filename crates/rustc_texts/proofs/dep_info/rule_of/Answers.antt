use Rattle.std.proofs.Common.{Option, option_and_then, ap, sym, ◌∙◌}
use Rattle.base_files.specs.Bytes.{Bytes}
use Rattle.rustc_texts.specs.DepInfo.{after_colon}
use Rattle.rustc_texts.proofs.FirstLines.{first_line}
use Rattle.rustc_texts.proofs.dep_info.rule_of.Goals as goal

pub returns : goal.returns
returns c =
    let first = first_line c.args.text.now c.lines.result c.lines.ensures.rest c.in_ok-next.field-0 c.next.new.self c.in_ok-next.ensures.steps in
    c.after_colon.ensures ∙ ap after_colon c.as_bytes.ensures.value ∙ sym (ap (λ (line : Option Bytes). option_and_then after_colon line) first)
