use Rattle.std.proofs.Common.{◌≡◌, suc, true, false, ◌+◌, ◌≤◌, length, List, ◌∷◌, take, drop, drop-cons, fold, filter, ◌∙◌, ap, sym, refl, arith}
use Rattle.std.proofs.Math.ListN.{drop_of_length-le}
use Rattle.std.proofs.Math.Seq.{take-length}
use Rattle.std.proofs.Math.Numerals.{suc-eq-add-one}
use Rattle.std.proofs.lemmas.List.Sums.{fold_more}
use Rattle.base_files.specs.Bytes.{Bytes}
use Rattle.rustc_texts.specs.Outputs.{has_name, metadata_name, with_metadata_of, with_name, without_name}
use Rattle.rustc_texts.specs.Places.{is_none_of}
use Rattle.rustc_texts.proofs.InPlace.{all-stay, stays}
use Rattle.rustc_texts.proofs.metadata.in_place.Goals.{then-is_new+then-not-stands_from+in_ok-push, else-is_new, else-is_new-via-then-is_new+else-not-stands_from, else-is_new-via-else-is_new}
use Rattle.rustc_texts.proofs.metadata.in_place.Goals as goal

pub loop-place-preserved : goal.loop-place-preserved
loop-place-preserved c =
    let libraries : List Bytes = c.args.libraries.now in
    let place = c.loop-place.place in
    let names : List Bytes = fold (with_metadata_of false) c.args.names.items (take place libraries) in
    let library : Bytes = c.index-libraries-place.result in
    let name : Bytes = c.in_ok-name.name in
    let step =
    ap (λ (n : Bytes). without_name (with_name names n) library) (c.in_ok-name.ensures ∙ ap metadata_name c.as_bytes.ensures)
    ∙ ap (λ (l : Bytes). with_metadata_of false names l) c.index-libraries-place.is
    ∙ sym (fold_more (with_metadata_of false) c.args.names.items libraries place library c.loop-place-test.true) in
    let later : List Bytes = drop (place + 1) libraries in
    let left : drop place libraries ≡ library ∷ later =
    drop-cons libraries place library c.loop-place-test.true
    ∙ ap (λ (l : Bytes). l ∷ drop (suc place) libraries) (sym c.index-libraries-place.is)
    ∙ ap (λ p. library ∷ drop p libraries) (suc-eq-add-one place) in
    let m = c.loop-place.invariant.made ∙ ap (λ (l : List Bytes). filter (is_none_of l) names) left in
    let is_new = c.in_ok-is_new.ensures.is_new names c.loop-place.invariant.told in
    let keeps = ap (filter (is_none_of later)) step in
    record {
      told = λ other. c.remove_name.ensures (with_name names name) (c.in_ok-is_new.ensures.told names c.loop-place.invariant.told) other ∙ ap (λ (l : List Bytes). has_name l other) step;
      last = c.loop-place.invariant.last;
      made = elim c.if-is_new.branch [
        | then-is_new+then-not-stands_from+in_ok-push w ↦
            let stands = w.stands_from.ensures libraries c.loop-place.invariant.last ∙ ap (λ (l : List Bytes). has_name l name) left in
            ap (λ v. v.items) w.made-is ∙ w.in_ok-push.ensures.items ∙ stays library name later names _ m true false (sym w.if-is_new.true ∙ is_new) (sym w.if-not-stands_from.true ∙ stands) ∙ keeps
        | else-is_new w ↦ elim w.else-is_new.branch [
          | else-is_new-via-then-is_new+else-not-stands_from w' ↦
              let stands = w'.stands_from.ensures libraries c.loop-place.invariant.last ∙ ap (λ (l : List Bytes). has_name l name) left in
              ap (λ v. v.items) w.made-is ∙ stays library name later names _ m true true (sym w'.if-is_new.true ∙ is_new) (sym w'.if-not-stands_from.false ∙ stands) ∙ keeps
          | else-is_new-via-else-is_new w' ↦ ap (λ v. v.items) w.made-is ∙ stays library name later names _ m false (has_name (library ∷ later) name) (sym w'.if-is_new.false ∙ is_new) refl ∙ keeps
        ]
      ];
    }

pub returns : goal.returns
returns c =
    let libraries : List Bytes = c.args.libraries.now in
    let place = c.loop-place.place in
    let past : length libraries ≤ place = c.loop-place-test.false in
    let within : place ≤ length libraries = c.loop-place.auto.place-end in
    let end : place ≡ length libraries = omega arith in
    let names : List Bytes = fold (with_metadata_of false) c.args.names.items (take place libraries) in
    c.loop-place.invariant.made
    ∙ ap (λ (l : List Bytes). filter (is_none_of l) names) (drop_of_length-le libraries past)
    ∙ all-stay names
    ∙ ap (λ (l : List Bytes). fold (with_metadata_of false) c.args.names.items l) (ap (λ p. take p libraries) end ∙ take-length libraries)
