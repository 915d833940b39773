use Rattle.std.proofs.Common.{◌*◌, ap}
use Rattle.rustkeys.specs.Records.{key_of, record_shape}
use Rattle.rustkeys.proofs.KeyLemmas.{record_told}
use Rattle.rustkeys.proofs.laws.rustc_keys_tell_records.Goals as goal

pub returns : goal.returns
returns g c one other p q distinct =
    let digest_of = g.H.HashState.digest_of in (
      (λ h. record_told digest_of c.texts_tell_digests.ensures.tells (2 * g.H.HashState.LEN) c.digests_are_formed.ensures (c.bytes_and_shape_tell_parts.ensures (2 * g.H.HashState.LEN)) one other p q distinct h.0 h.1),
      (λ same. (ap (key_of digest_of) same, ap (record_shape digest_of) same)),
    )
