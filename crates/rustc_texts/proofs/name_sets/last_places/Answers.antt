use Rattle.std.proofs.Common.{List, [], ◌∷◌, ◌++◌, take, drop, nat_le, ◌∙◌, ap, sym, nat_cmp, arith}
use Rattle.std.specs.Prelude.{cond, Some}
use Rattle.std.specs.BTreeMap.{get}
use Rattle.std.specs.Cmp.Lexicographic.{slice_cmp}
use Rattle.std.specs.Ordering.{is_eq}
use Rattle.std.specs.Str.{bytes_eq}
use Rattle.std.proofs.lemmas.List.{length-take-le, take_more}
use Rattle.std.proofs.lemmas.Map.Text.{is_eq-slice_cmp}
use Rattle.base_files.specs.Bytes.{Bytes}
use Rattle.rustc_texts.specs.Outputs.{has_name}
use Rattle.rustc_texts.specs.Places.{is_from}
use Rattle.rustc_texts.proofs.LastPlaces.{from-cond, has-from}
use Rattle.rustc_texts.proofs.name_sets.last_places.Goals as goal

pub loop-place-preserved : goal.loop-place-preserved
loop-place-preserved c = λ other from.
    let names : List Bytes = c.args.names.now in
    let place = c.loop-place.place in
    let name : Bytes = c.index-names-place.result in
    let before = get (slice_cmp nat_cmp) c.loop-place.last other in
    ap (is_from from) (c.in_ok-insert.ensures.updates.0 other)
    ∙ ap (λ (key : Bytes). is_from from (cond (is_eq (slice_cmp nat_cmp key other)) (Some place) before)) c.in_ok-clone.ensures.cases
    ∙ ap (λ b. is_from from (cond b (Some place) before)) (is_eq-slice_cmp name other)
    ∙ from-cond from place before (bytes_eq name other)
    ∙ ap (cond (bytes_eq name other) (nat_le from place)) (c.loop-place.invariant other from)
    ∙ ap (λ n. cond (bytes_eq name other) (nat_le from n) (has_name (drop from (take place names)) other)) (sym (length-take-le place names (omega arith)))
    ∙ sym (has-from (take place names) name other from)
    ∙ ap (λ (n : Bytes). has_name (drop from (take place names ++ n ∷ [])) other) c.index-names-place.is
    ∙ ap (λ (l : List Bytes). has_name (drop from l) other) (sym (take_more names place name c.loop-place-test.true))
