use Rattle.std.proofs.Common.{◌≡◌, take}
use Rattle.cache_c_why.proofs.parts.copied_variables.Given as goal

abbrev pub invariant-loop-variable : goal.invariant-loop-variable
invariant-loop-variable l = l.copy ≡ take l.variable-index l.variables
