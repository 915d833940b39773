use Rattle.std.proofs.Common.{◌≡◌, ◌≤◌, take}
use Rattle.ckeys_include_records.specs.Records.{includes_in}
use Rattle.ckeys_include_records.proofs.record.small_count.Given as goal

abbrev pub invariant-loop-result : goal.invariant-loop-result
invariant-loop-result l = record {
  so_far : l.count ≡ includes_in (take l.result-index l.results);
  bounded : l.count ≤ 10000;
}
