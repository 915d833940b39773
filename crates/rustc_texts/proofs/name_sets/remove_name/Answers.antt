use Rattle.std.proofs.Common.{false, ◌∙◌, ap, sym, nat_cmp}
use Rattle.std.specs.Prelude.{cond}
use Rattle.std.specs.BTreeSet.{contains}
use Rattle.std.specs.Cmp.Lexicographic.{slice_cmp}
use Rattle.std.specs.Str.{bytes_eq}
use Rattle.std.proofs.lemmas.Map.Text.{is_eq-slice_cmp}
use Rattle.rustc_texts.proofs.ToldNames.{has-less}
use Rattle.rustc_texts.proofs.name_sets.remove_name.Goals as goal

pub returns : goal.returns
returns c = λ names tells other.
    let name = c.args.name.now in
    let held = contains (slice_cmp nat_cmp) c.args.known.now other in
    c.remove.ensures.updates.0 other
    ∙ ap (λ b. cond b false held) (is_eq-slice_cmp name other)
    ∙ ap (cond (bytes_eq name other) false) (tells other)
    ∙ sym (has-less names name other)
