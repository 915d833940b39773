use Rattle.wrap_replay.proofs.OneEntry.{holds_nothing, holds_this}
use Rattle.wrap_replay.proofs.kept_session.store_over.Goals as goal

pub returns-in-Some : goal.returns-in-Some
returns-in-Some c = rw c.in-Some.is (holds_this _ c.keys_are_their_fields.ensures.equal _ _ c.in-Some.key c.in-Some.pairs _ c.new-store.ensures.empty c.put.ensures.stored)

pub returns-in-None : goal.returns-in-None
returns-in-None c = rw c.in-None.is (holds_nothing _ c.new-store.ensures.empty)
