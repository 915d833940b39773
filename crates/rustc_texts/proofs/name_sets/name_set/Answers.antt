use Rattle.std.proofs.Common.{List, [], ◌∷◌, ◌++◌, take, ◌∙◌, ap, sym}
use Rattle.std.proofs.lemmas.List.{take_more}
use Rattle.base_files.specs.Bytes.{Bytes}
use Rattle.rustc_texts.specs.Outputs.{has_name}
use Rattle.rustc_texts.proofs.ToldNames.{has-pushed, has-with}
use Rattle.rustc_texts.proofs.name_sets.name_set.Goals as goal

pub loop-name-preserved : goal.loop-name-preserved
loop-name-preserved c = λ other.
    let names : List Bytes = c.args.names.now in
    let place = c.loop-name.name-index in
    let name : Bytes = c.name-item.result in
    c.in_ok-insert_name.ensures.told (take place names) c.loop-name.invariant other
    ∙ has-with (take place names) name other
    ∙ sym (has-pushed (take place names) name other)
    ∙ ap (λ (n : Bytes). has_name (take place names ++ n ∷ []) other) c.name-item.is
    ∙ ap (λ (l : List Bytes). has_name l other) (sym (take_more names place name c.loop-name-test.true))
