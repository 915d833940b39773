use Rattle.wrap.proofs.CallSteps.{tells_by}
use Rattle.wrap.proofs.laws.call_keys_tell_records.Goals as goal

pub returns : goal.returns
returns g c = tells_by g.H.HashState.digest_of c.keys_tell_records.ensures c.rustc_keys_tell_records.ensures
