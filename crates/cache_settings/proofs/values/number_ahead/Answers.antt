use Rattle.std.proofs.Common.{sym, ◌∙◌}
use Rattle.cache_settings.proofs.NumberLemmas.{no_digits, no_more, none_seen, some_digits, some_seen, too_great_after}
use Rattle.cache_settings.proofs.values.number_ahead.Goals as goal

pub returns-in_err-number : goal.returns-in_err-number
returns-in_err-number c =
    rw c.from_residual.ensures
    (too_great_after c.args.text.now c.digits.rest.now c.digits.number (c.in-Some.digit, c.in-Some.after.now) c.digits.invariant.0
    (some_seen _ _ _ _ c.in-Some.is c.digit_ahead.ensures)
    (sym c.in_err-number.was ∙ c.with_digit.ensures))

pub returns-then-rest-text : goal.returns-then-rest-text
returns-then-rest-text c =
    no_digits c.args.text.now c.digits.number c.digits.rest.now
    (no_more c.digits.number c.digits.rest.now (none_seen _ _ _ c.in_default.is c.digit_ahead.ensures) ∙ c.digits.invariant.0)
    c.if-rest-text.true

pub returns : goal.returns
returns c =
    some_digits c.args.text.now c.digits.number c.digits.rest.now
    (no_more c.digits.number c.digits.rest.now (none_seen _ _ _ c.in_default.is c.digit_ahead.ensures) ∙ c.digits.invariant.0)
    c.if-rest-text.false
    c.digits.invariant.1
