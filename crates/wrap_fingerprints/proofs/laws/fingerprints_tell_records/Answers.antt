use Rattle.wrap_fingerprints.proofs.RecordLemmas.{tell}
use Rattle.wrap_fingerprints.proofs.laws.fingerprints_tell_records.Goals as goal

pub returns : goal.returns
returns g c one other distinct = tell g.H.HashState.digest_of c.texts_tell_digests.ensures.tells one other distinct
