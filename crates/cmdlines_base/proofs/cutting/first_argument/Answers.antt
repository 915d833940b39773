use Rattle.std.proofs.Common.{rules}
use Rattle.cmdlines_base.specs.Table.{entry_at}
use Rattle.cmdlines_base.specs.Reading.{first_by}
use Rattle.cmdlines_base.specs.Values.{values_by, FailsToTake}
use Rattle.cmdlines_base.proofs.TakeLemmas.{nothing_left, passed_on, takes-whole, fails-whole, takes-value, fails-value, takes-empty, fails-empty}
use Rattle.cmdlines_base.proofs.cutting.first_argument.Goals as goal

pub returns-in_err-argument-clause-fails : goal.returns-in_err-argument-clause-fails
returns-in_err-argument-clause-fails g c =
    let values = values_by g.T.ArgumentValue.flag_value g.T.ArgumentValue.word_value g.T.ArgumentValue.refusal in
    let start = first_by (entry_at c.args.entry) c.args.word.now in
    passed_on (FailsToTake values start c.args.rest.now) _ (fails-whole values start c.args.rest.now _ c.in_err-argument.ensures.refused) _ c.from_residual.ensures.1

pub returns-in-Whole-clause-takes : goal.returns-in-Whole-clause-takes
returns-in-Whole-clause-takes g c =
    let values = values_by g.T.ArgumentValue.flag_value g.T.ArgumentValue.word_value g.T.ArgumentValue.refusal in
    let start = first_by (entry_at c.args.entry) c.args.word.now in
    takes-whole values start c.args.rest.now _ (rw c.in-Whole.is at c.in_ok-argument.ensures.first)

pub returns-in_ok-argument-in-Some-clause-takes : goal.returns-in_ok-argument-in-Some-clause-takes
returns-in_ok-argument-in-Some-clause-takes g c =
    let values = values_by g.T.ArgumentValue.flag_value g.T.ArgumentValue.word_value g.T.ArgumentValue.refusal in
    let start = first_by (entry_at c.args.entry) c.args.word.now in
    takes-value values start c.args.rest.now _ _ _ (rw c.in-Awaits.is at c.in_ok-argument.ensures.first) _ _ (search rules) _ c.in_ok-argument-in-Some.ensures.value c.in_ok-argument-in-Some.ensures.accepted

pub returns-in_err-argument-in-Some-clause-fails : goal.returns-in_err-argument-in-Some-clause-fails
returns-in_err-argument-in-Some-clause-fails g c =
    let values = values_by g.T.ArgumentValue.flag_value g.T.ArgumentValue.word_value g.T.ArgumentValue.refusal in
    let start = first_by (entry_at c.args.entry) c.args.word.now in
    passed_on (FailsToTake values start c.args.rest.now) _ (fails-value values start c.args.rest.now _ _ _ (rw c.in-Awaits.is at c.in_ok-argument.ensures.first) c.as_bytes.result.now c.in-Some.left.now (search rules) _ c.in_err-argument-in-Some.ensures.refused) _ c.from_residual-in_err-argument-in-Some.ensures.1

pub returns-in_err-with_value-in-CanBeConcatenated-None-clause-fails : goal.returns-in_err-with_value-in-CanBeConcatenated-None-clause-fails
returns-in_err-with_value-in-CanBeConcatenated-None-clause-fails g c =
    let values = values_by g.T.ArgumentValue.flag_value g.T.ArgumentValue.word_value g.T.ArgumentValue.refusal in
    let start = first_by (entry_at c.args.entry) c.args.word.now in
    passed_on (FailsToTake values start c.args.rest.now) _ (fails-empty values start c.args.rest.now _ _ _ (rw c.in-Awaits.is at c.in_ok-argument.ensures.first) (search rules) (nothing_left _ c.in-None.ensures.cases) _ c.in_err-with_value-in-CanBeConcatenated-None.ensures.refused) _ c.from_residual-in_err-with_value-in-CanBeConcatenated-None.ensures.1

pub returns-in_ok-with_value-in-CanBeConcatenated-None-clause-takes : goal.returns-in_ok-with_value-in-CanBeConcatenated-None-clause-takes
returns-in_ok-with_value-in-CanBeConcatenated-None-clause-takes g c =
    let values = values_by g.T.ArgumentValue.flag_value g.T.ArgumentValue.word_value g.T.ArgumentValue.refusal in
    let start = first_by (entry_at c.args.entry) c.args.word.now in
    takes-empty values start c.args.rest.now _ _ _ (rw c.in-Awaits.is at c.in_ok-argument.ensures.first) (search rules) (nothing_left _ c.in-None.ensures.cases) _ c.in_ok-with_value-in-CanBeConcatenated-None.ensures.value c.in_ok-with_value-in-CanBeConcatenated-None.ensures.accepted
