use Rattle.ckeys_base.proofs.ShelfLemmas.{held_as_before, none_forgotten}
use Rattle.ckeys_base.proofs.store.kept_look_up_changes_nothing.Goals as goal

pub returns-clause-held : goal.returns-clause-held
returns-clause-held g c = held_as_before

pub returns-clause-forgot : goal.returns-clause-forgot
returns-clause-forgot g c = none_forgotten
