use Rattle.std.proofs.Common.{◌≡◌, ◌∙◌, [], ap, subst}
use Rattle.base_files.specs.Bytes.{Bytes}
use Rattle.cmdlines_base.specs.Texts.{PathText}
use Rattle.rustc_options.specs.Splitting.{with_equals}
use Rattle.rustc_options.proofs.types.after_equals_to_string.Goals as goal

pub returns-clause-text : goal.returns-clause-text
returns-clause-text g c =
    let text : Bytes → Bytes → Type 0 = λ front path. PathText g.F.FnMut front path c.args.path_transformer.now c.path_to_string.result c.path_to_string.new.path_transformer in
    let front : c.as_bytes-2.result.now ≡ with_equals c.args.name.now [] = c.as_bytes-2.ensures ∙ c.in_ok-front.ensures ∙ ap (λ (name : Bytes). with_equals name []) c.as_bytes.ensures in
    subst (λ f. text f c.args.path.now) front (subst (λ p. text c.as_bytes-2.result.now p) c.as_bytes-3.ensures c.path_to_string.ensures.text)
