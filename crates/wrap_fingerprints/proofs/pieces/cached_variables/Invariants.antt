use Rattle.std.proofs.Common.{◌≡◌, filter, take}
use Rattle.ckeys_records.specs.Params.{is_cached}
use Rattle.wrap_fingerprints.proofs.pieces.cached_variables.Given as goal

-- those of the variables so far that count
abbrev pub invariant-loop-variable : goal.invariant-loop-variable
invariant-loop-variable l = l.counted.items ≡ filter is_cached (take l.variable-index l.variables)
