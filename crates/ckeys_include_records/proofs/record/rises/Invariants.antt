use Rattle.std.proofs.Common.{◌≡◌, length}
use Rattle.ckeys_include_records.specs.Records.{rises}
use Rattle.ckeys_include_records.proofs.record.rises.Given as goal

abbrev pub invariant-pairs : goal.invariant-pairs
invariant-pairs l = rises l.rest ≡ rises l.fn.results

abbrev pub decreases-pairs : goal.decreases-pairs
decreases-pairs l = length l.rest
