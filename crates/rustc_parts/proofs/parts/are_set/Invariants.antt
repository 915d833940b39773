use Rattle.std.proofs.Common.{◌≡◌, map, take}
use Rattle.std.specs.Prelude.{is_some}
use Rattle.rustc_parts.proofs.parts.are_set.Given as goal

abbrev pub invariant-loop-dep : goal.invariant-loop-dep
invariant-loop-dep l = l.are_set.items ≡ map (λ dep. is_some dep.value) (take l.dep-index l.deps)
