use Rattle.std.proofs.Common.{length, filter}
use Rattle.std.specs.List.{AllByRecursion}
use Rattle.ckeys_records.specs.Material.{variables_bytes}
use Rattle.ckeys_records.specs.Params.{is_cached, IsFed}
use Rattle.ckeys_records.specs.Records.{FitsLength}
use Rattle.ckeys_records.proofs.params.hash_variables.Given as goal

-- whoever is fed the variables that are left was fed all of them; and where the lengths of those that are left fit, all do
abbrev pub invariant-loop-variable : goal.invariant-loop-variable
invariant-loop-variable g l = record {
  fed : (new : _) → IsFed g.H.HashState.holds l.digest (variables_bytes (filter is_cached l.rest)) new → IsFed g.H.HashState.holds l.fn.digest (variables_bytes (filter is_cached l.fn.variables)) new;
  fit : AllByRecursion FitsLength (filter is_cached l.rest) → AllByRecursion FitsLength (filter is_cached l.fn.variables);
}

abbrev pub decreases-loop-variable : goal.decreases-loop-variable
decreases-loop-variable g l = length l.rest
