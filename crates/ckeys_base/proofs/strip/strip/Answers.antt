use Rattle.std.proofs.Common.{◌<◌, length, ◌∙◌, refl, [], arith}
use Rattle.ckeys_base.specs.FromTheLeft.{places_of}
use Rattle.ckeys_base.proofs.OneStripping.{has_exactly_one, left-by_any, none-goes, all-left, some-goes}
use Rattle.ckeys_base.proofs.strip.strip.Goals as goal

pub returns-then-first-text-clause-one : goal.returns-then-first-text-clause-one
returns-then-first-text-clause-one c = has_exactly_one (places_of c.args.kind) c.args.folders.now c.args.text.now

pub returns-then-first-text-clause-value : goal.returns-then-first-text-clause-value
returns-then-first-text-clause-value c =
    all-left (places_of c.args.kind) c.args.folders.now c.args.text.now (λ k lt. c.next_place-first.ensures.none_before k (omega arith) (omega arith))

pub returns-then-first-text-clause-left : goal.returns-then-first-text-clause-left
returns-then-first-text-clause-left c = λ starts is.
    returns-then-first-text-clause-value c ∙ left-by_any (places_of c.args.kind) c.args.folders.now c.args.text.now starts is

pub returns-then-first-text-clause-borrowed : goal.returns-then-first-text-clause-borrowed
returns-then-first-text-clause-borrowed c = λ starts is. (
  λ _. none-goes (places_of c.args.kind) c.args.folders.now c.args.text.now (λ k lt. c.next_place-first.ensures.none_before k (omega arith) (omega arith)) starts is,
  λ _. tt,
)

pub returns-in_err-join_kept-clause-one : goal.returns-in_err-join_kept-clause-one
returns-in_err-join_kept-clause-one c = has_exactly_one (places_of c.args.kind) c.args.folders.now c.args.text.now

pub returns-clause-one : goal.returns-clause-one
returns-clause-one c = has_exactly_one (places_of c.args.kind) c.args.folders.now c.args.text.now

pub returns-clause-left : goal.returns-clause-left
returns-clause-left c = λ starts is. c.in_ok-join_kept.ensures ∙ left-by_any (places_of c.args.kind) c.args.folders.now c.args.text.now starts is

pub returns-clause-borrowed : goal.returns-clause-borrowed
returns-clause-borrowed c = λ starts is.
    let at : c.next_place-first.result < length c.args.text.now = omega arith in (
      λ f. absurd f,
      λ empty. some-goes (places_of c.args.kind) c.args.folders.now c.args.text.now c.next_place-first.result at
          (λ k lt. c.next_place-first.ensures.none_before k (omega arith) lt) (c.next_place-first.ensures.found at) starts is empty,
    )

pub returns-in_err-join_kept-clause-memory : goal.returns-in_err-join_kept-clause-memory
returns-in_err-join_kept-clause-memory c = λ none.
    let at : c.next_place-first.result < length c.args.text.now = omega arith in
    absurd (some-goes (places_of c.args.kind) c.args.folders.now c.args.text.now c.next_place-first.result at
    (λ k lt. c.next_place-first.ensures.none_before k (omega arith) lt) (c.next_place-first.ensures.found at) [] none refl)
