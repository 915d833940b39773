use Rattle.wrap.proofs.CallSteps.{keys_tell}
use Rattle.wrap.proofs.laws.store_keys_tell_records.Goals as goal

pub returns : goal.returns
returns g c = keys_tell g.H.HashState.digest_of c.call_keys_tell_records.ensures
