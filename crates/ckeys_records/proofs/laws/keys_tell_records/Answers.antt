use Rattle.std.proofs.Common.{ap}
use Rattle.ckeys_records.specs.Keys.{key_of, record_shape}
use Rattle.ckeys_records.proofs.KeyLemmas.{record_told}
use Rattle.ckeys_records.proofs.laws.keys_tell_records.Goals as goal

pub returns : goal.returns
returns g c one other p q distinct =
    let digest_of = g.H.HashState.digest_of in (
      (λ h. record_told digest_of c.texts_tell_digests.ensures.tells one other p q distinct h.0 h.1),
      (λ same. (ap (key_of digest_of) same, ap (record_shape digest_of) same)),
    )
