use Rattle.wrap.proofs.laws.fingerprints_tell_store_keys.Goals as goal

pub returns : goal.returns
returns g c one other told also distinct =
    let keys = c.store_keys_tell_records.ensures one other told also distinct in
    let prints = c.fingerprints_tell_records.ensures one other distinct in (
      (λ same. keys.1 (prints.0 same)),
      (λ same. prints.1 (keys.0 same)),
    )
