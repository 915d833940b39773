use Rattle.std.proofs.Common.{◌≡◌, ◌≤◌, ◌+◌, length, filter}
use Rattle.ckeys_records.specs.Params.{is_cached}
use Rattle.ckeys_records.proofs.params.cached_count.Given as goal

-- those so far were counted, and those that are left are to be
abbrev pub invariant-loop-variable : goal.invariant-loop-variable
invariant-loop-variable l = record {
  counted : l.count + length (filter is_cached l.rest) ≡ length (filter is_cached l.fn.variables);
  below : l.count + length l.rest ≤ length l.fn.variables;
}

abbrev pub decreases-loop-variable : goal.decreases-loop-variable
decreases-loop-variable l = length l.rest
