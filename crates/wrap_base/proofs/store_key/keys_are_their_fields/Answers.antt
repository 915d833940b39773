use Rattle.wrap_base.proofs.KeyEquality.{keys_are}
use Rattle.wrap_base.proofs.store_key.keys_are_their_fields.Goals as goal

pub returns-clause-equal : goal.returns-clause-equal
returns-clause-equal c = keys_are

pub returns-clause-tied : goal.returns-clause-tied
returns-clause-tied c one other =
    let tie = c.ties_are_equal.ensures one other in
    (λ h. (keys_are one other).0 (tie.0 h), λ e. tie.1 ((keys_are one other).1 e))
