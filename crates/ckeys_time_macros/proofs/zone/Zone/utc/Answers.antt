use Rattle.ckeys_time_macros.proofs.UtcRule.{utc_is_read}
use Rattle.ckeys_time_macros.proofs.zone.Zone.utc.Goals as goal

pub returns-clause-rule : goal.returns-clause-rule
returns-clause-rule c = rw c.utc.ensures utc_is_read
