use Rattle.ckeys_time_macros.proofs.MomentOrder.{ordered_by_parts, equal_by_parts}
use Rattle.ckeys_time_macros.proofs.laws.timestamps_are_their_nanoseconds.Goals as goal

pub returns-clause-ordered : goal.returns-clause-ordered
returns-clause-ordered c one other = ordered_by_parts one.seconds other.seconds one.nanoseconds other.nanoseconds one.below_a_second other.below_a_second

pub returns-clause-equal : goal.returns-clause-equal
returns-clause-equal c = equal_by_parts
