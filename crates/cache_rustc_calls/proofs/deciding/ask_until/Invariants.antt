use Rattle.std.proofs.Common.{◌≤◌}
use Rattle.cache_rustc_calls.proofs.deciding.ask_until.Given as goal

abbrev pub invariant-loop : goal.invariant-loop
invariant-loop g l = l.host.compiled ≤ 1
