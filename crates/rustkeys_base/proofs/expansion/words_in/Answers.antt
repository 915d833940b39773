use Rattle.std.proofs.Common.{◌≡◌, Option, Some, sym, ap, ◌∙◌}
use Rattle.std.specs.Option.{option_and_then}
use Rattle.base_files.specs.Bytes.{Bytes}
use Rattle.base_files.specs.Tree.{contents_at}
use Rattle.rustkeys_base.specs.Expansion.{words_in, words_of_text}
use Rattle.rustkeys_base.proofs.expansion.words_in.Goals as goal

pub returns-in-Ok-Some-clause-known : goal.returns-in-Ok-Some-clause-known
returns-in-Ok-Some-clause-known g c =
    let tree = g.F.Files.tree c.args.files.now in
    let found : contents_at tree c.args.path ≡ Some c.in-Ok-Some.text = sym c.in-Ok-Some.ensures.answer ∙ c.in-Ok-Some.field-0-is in
    let is_so : words_in tree c.args.path ≡ c.in_ok-words-in-Ok-Some.words = ap (λ (text : Option Bytes). option_and_then words_of_text text) found ∙ sym c.in_ok-words-in-Ok-Some.ensures in
    c.in_ok-note-in-Ok-Some.ensures (words_in tree) c.requires is_so
