use Rattle.std.proofs.Common.{◌≡◌, Option, Some, sym, ap, ◌∙◌}
use Rattle.std.specs.Option.{option_and_then}
use Rattle.base_files.specs.Bytes.{Bytes}
use Rattle.base_files.specs.Tree.{contents_at}
use Rattle.cmdlines_response_files.specs.Known.{arguments_at}
use Rattle.cmdlines_response_files.specs.Styles.{words_of}
use Rattle.cmdlines_response_files.proofs.opening.opened_at.Goals as goal

pub returns-in_ok-note-in-Ok-Some-clause-known : goal.returns-in_ok-note-in-Ok-Some-clause-known
returns-in_ok-note-in-Ok-Some-clause-known g c =
    let tree = g.F.Files.tree c.args.files.now in
    let style = c.args.style in
    let found : contents_at tree c.args.name ≡ Some c.in-Ok-Some.text = sym c.in-Ok-Some.ensures.answer ∙ c.in-Ok-Some.field-0-is in
    let is_so : arguments_at style tree c.args.name ≡ c.in_ok-words-in-Ok-Some.words = ap (λ (text : Option Bytes). option_and_then (words_of style) text) found ∙ ap (words_of style) (sym c.as_bytes.ensures) ∙ sym c.in_ok-words-in-Ok-Some.ensures in
    c.in_ok-note-in-Ok-Some.ensures (arguments_at style tree) c.requires is_so
