use Rattle.std.proofs.Common.{◌≡◌, ap, ◌∙◌, subst, IfOk, ◌++◌, [], ◌∷◌}
use Rattle.std.proofs.lemmas.Slice.Eq.{strip_suffix_is}
use Rattle.std.proofs.lemmas.Bool.Decides.{Decides-eqb}
use Rattle.base_files.specs.Bytes.{Bytes}
use Rattle.base_files.proofs.PieceLaws.{with_slash_is, join_is}
use Rattle.base_files.proofs.path.join.Goals as goal

pub returns : goal.returns
returns c =
    let base = c.args.base in
    let path = c.args.path.now in
    let stripped = strip_suffix_is Decides-eqb base.now (47 ∷ []) c.strip_suffix.result c.strip_suffix.ensures.cases in
    let made = ap (λ directory. directory.now ++ 47 ∷ path) c.unwrap_or-directory.ensures ∙ with_slash_is base c.strip_suffix.result stripped path in
    let P : Bytes → Type 0 = λ bytes. IfOk c.joined_by.result (λ joined. joined ≡ bytes) in
    subst P (made ∙ join_is base.now path c.if-starts_with.ensures.value c.if-is_empty.ensures) c.joined_by.ensures
