use Rattle.ckeys_include_records.proofs.entry_key.entry_keys_are_ordered_by_their_fields.Goals as goal

pub returns-clause-tied : goal.returns-clause-tied
returns-clause-tied c one other =
    let tie = c.ties_are_equal.ensures one other in
    let same = c.entry_keys_are_their_fields.ensures one other in
    (λ h. same.0 (tie.0 h), λ e. tie.1 (same.1 e))
