use Rattle.std.proofs.Common.{◌≡◌, take}
use Rattle.std.specs.Prelude.{filter}
use Rattle.rustc_texts.specs.Variables.{compiles_with}
use Rattle.rustc_texts.proofs.variables.compile_env.Given as goal

-- those of the pairs so far
abbrev pub invariant-loop-pair : goal.invariant-loop-pair
invariant-loop-pair l = l.kept.items ≡ filter (λ pair. compiles_with pair.0) (take l.pair-index l.env)
