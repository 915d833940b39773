use Rattle.std.proofs.Common.{◌≡◌, false, refl, sym}
use Rattle.std.specs.List.{list_any}
use Rattle.ckeys_marker_walk.proofs.Meaning.{meant_plain, none_held, one_held}
use Rattle.ckeys_marker_walk.specs.Spelling.{is_backslash}
use Rattle.ckeys_marker_walk.proofs.names.unescaped.Goals as goal

pub returns-in-None : goal.returns-in-None
returns-in-None c =
    let none = none_held c.args.raw.now c.in-None.ensures in
    record { value = sym (meant_plain c.args.raw.now c.in-None.ensures); borrowed = (λ _. none, λ _. tt); plain = λ _. refl }

pub returns-in_ok-without_escapes-in-Some-clause-borrowed : goal.returns-in_ok-without_escapes-in-Some-clause-borrowed
returns-in_ok-without_escapes-in-Some-clause-borrowed c = (
  λ f. absurd f,
  λ (none : list_any is_backslash c.args.raw.now ≡ false). let one = one_held c.args.raw.now c.in-Some.field-0 c.in-Some.ensures in cc,
)

pub returns-in_err-without_escapes-in-Some-clause-plain : goal.returns-in_err-without_escapes-in-Some-clause-plain
returns-in_err-without_escapes-in-Some-clause-plain c = λ (none : list_any is_backslash c.args.raw.now ≡ false).
    let one = one_held c.args.raw.now c.in-Some.field-0 c.in-Some.ensures in cc
