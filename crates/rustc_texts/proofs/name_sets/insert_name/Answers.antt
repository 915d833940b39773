use Rattle.std.proofs.Common.{true, ◌∙◌, ap, sym, nat_cmp}
use Rattle.std.specs.Prelude.{cond}
use Rattle.std.specs.BTreeSet.{contains}
use Rattle.std.specs.Cmp.Lexicographic.{slice_cmp}
use Rattle.std.specs.Ordering.{is_eq}
use Rattle.std.specs.Str.{bytes_eq}
use Rattle.std.proofs.lemmas.Map.Text.{is_eq-slice_cmp}
use Rattle.base_files.specs.Bytes.{Bytes}
use Rattle.rustc_texts.proofs.ToldNames.{has-with}
use Rattle.rustc_texts.proofs.name_sets.insert_name.Goals as goal

pub returns-clause-told : goal.returns-clause-told
returns-clause-told c = λ names tells other.
    let name = c.args.name.now in
    let held = contains (slice_cmp nat_cmp) c.args.known.now other in
    c.in_ok-insert.ensures.updates.0 other
    ∙ ap (λ (key : Bytes). cond (is_eq (slice_cmp nat_cmp key other)) true held) c.in_ok-clone.ensures.cases
    ∙ ap (λ b. cond b true held) (is_eq-slice_cmp name other)
    ∙ ap (cond (bytes_eq name other) true) (tells other)
    ∙ sym (has-with names name other)
