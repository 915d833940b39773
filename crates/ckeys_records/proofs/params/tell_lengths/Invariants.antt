use Rattle.std.proofs.Common.{length, filter}
use Rattle.std.specs.List.{AllByRecursion}
use Rattle.ckeys_records.specs.Params.{is_cached}
use Rattle.ckeys_records.specs.Records.{FitsLength}
use Rattle.ckeys_records.proofs.params.tell_lengths.Given as goal

-- where the lengths of those that are left fit, all do
abbrev pub invariant-loop-variable : goal.invariant-loop-variable
invariant-loop-variable l = AllByRecursion FitsLength (filter is_cached l.rest) → AllByRecursion FitsLength (filter is_cached l.fn.variables)

abbrev pub decreases-loop-variable : goal.decreases-loop-variable
decreases-loop-variable l = length l.rest
