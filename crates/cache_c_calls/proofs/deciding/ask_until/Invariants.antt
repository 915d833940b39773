use Rattle.std.proofs.Common.{◌≤◌}
use Rattle.cache_c_calls.proofs.deciding.ask_until.Given as goal

abbrev pub invariant-loop-number : goal.invariant-loop-number
invariant-loop-number g l = l.host.compiled ≤ 1
