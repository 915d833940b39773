use Rattle.std.proofs.Common.{◌≡◌, ap, ◌∙◌, subst, IfOk}
use Rattle.std.proofs.lemmas.List.{take_rest}
use Rattle.base_files.specs.Bytes.{Bytes}
use Rattle.base_files.specs.Path.{stem}
use Rattle.base_files.proofs.PieceLaws.{with_extension_is}
use Rattle.base_files.proofs.path.with_extension.Goals as goal

pub returns-in-Some : goal.returns-in-Some
returns-in-Some c =
    let found = c.in-Some.ensures in
    let whole = c.in-Some.whole.now in
    let end = c.stem.ensures ∙ ap stem (take_rest whole c.in-Some.start) in
    let P : Bytes → Type 0 = λ bytes. IfOk c.joined_by.result (λ changed. changed ≡ bytes) in
    subst P (with_extension_is c.args.path.now whole c.stem.result.now c.in-Some.start found.name found.before end c.args.extension.now) c.joined_by.ensures
