use Rattle.std.proofs.Common.{◌≡◌, ◌+◌, ◌-◌, ◌≤◌, length, drop}
use Rattle.ckeys_include_records.specs.Results.{place_for}
use Rattle.ckeys_include_records.proofs.record.place_for.Given as goal

abbrev pub invariant-loop-at : goal.invariant-loop-at
invariant-loop-at l = record {
  within : l.at ≤ length l.results;
  so_far : l.at + place_for (drop l.at l.results) l.key ≡ place_for l.results l.key;
}

abbrev pub decreases-loop-at : goal.decreases-loop-at
decreases-loop-at l = length l.results - l.at
