use Rattle.std.proofs.Common.{◌≡◌}
use Rattle.cache_c_requests.proofs.parts.ask_names.Given as goal

abbrev pub invariant-loop-name : goal.invariant-loop-name
invariant-loop-name g l = l.host.compiled ≡ 0
