use Rattle.ckeys.proofs.RecordLemmas.{entry_step, records_true}
use Rattle.ckeys.proofs.laws.records_are_true.Goals as goal

pub returns-clause-agree : goal.returns-clause-agree
returns-clause-agree g c = records_true g.H.HashState.digest_of c.texts_tell_digests.ensures.tells c.entry_keys_tell_calls.ensures.identity c.entry_keys_tell_calls.ensures.sights

pub returns-clause-stay : goal.returns-clause-stay
returns-clause-stay g c = entry_step g.H.HashState.digest_of
