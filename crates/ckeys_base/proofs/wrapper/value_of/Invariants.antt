use Rattle.std.proofs.Common.{◌≡◌, drop}
use Rattle.std.specs.Map.{lookup}
use Rattle.std.specs.Str.{bytes_eq}
use Rattle.ckeys_base.proofs.wrapper.value_of.Given as goal

-- no variable so far has that name
abbrev pub invariant-loop-variable : goal.invariant-loop-variable
invariant-loop-variable l = lookup (bytes_eq l.name) (drop l.variable-index l.env) ≡ lookup (bytes_eq l.name) l.env
