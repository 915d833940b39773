use Rattle.std.proofs.Common.{Some, sym, ap, ◌∙◌, ◌≡◌, true, false, refl}
use Rattle.std.proofs.lemmas.Bool.{both_ways, false_from_ne_true}
use Rattle.std.proofs.lemmas.Result.{err_from_is_err_and}
use Rattle.ckeys_include_records.specs.Records.{is_record}
use Rattle.ckeys_include_records.proofs.WholeRecords.{results-fail, results-left, results-kept, results-not_kept}
use Rattle.ckeys_include_records.proofs.layout.read_results.Goals as goal

pub returns-in_err-results : goal.returns-in_err-results
returns-in_err-results c =
    let p = err_from_is_err_and c.from_residual.result c.from_residual.ensures.1 in
    rw (p.1, p.2) (results-fail c.args.bytes.now c.in_err-results.field-0.0 c.in_err-results.ensures)

pub returns-then-not-is_empty : goal.returns-then-not-is_empty
returns-then-not-is_empty c = results-left c.args.bytes.now c.in_ok-results.results c.in_ok-results.rest.now c.in_ok-results.ensures (sym c.is_empty.ensures ∙ c.if-not-is_empty.true)

pub returns-in-Some : goal.returns-in-Some
returns-in-Some c =
    let ends = sym c.is_empty.ensures ∙ c.if-not-is_empty.false in
    let kept : is_record c.in_ok-results.results ≡ true = ap is_record (sym c.into_vec.ensures) ∙ c.in-Some.ensures.some.0 refl in
    results-kept c.args.bytes.now c.in_ok-results.results c.in_ok-results.rest.now c.in_ok-results.ensures ends kept ∙ ap Some (sym c.into_vec.ensures ∙ sym c.in-Some.ensures.value)

pub returns-in-None : goal.returns-in-None
returns-in-None c =
    let ends = sym c.is_empty.ensures ∙ c.if-not-is_empty.false in
    let not_kept : is_record c.in_ok-results.results ≡ false = ap is_record (sym c.into_vec.ensures) ∙ false_from_ne_true (is_record c.into_vec.result.items) (λ is. both_ways false refl (c.in-None.ensures.some.1 is)) in
    results-not_kept c.args.bytes.now c.in_ok-results.results c.in_ok-results.rest.now c.in_ok-results.ensures ends not_kept
