use Rattle.std.proofs.Common.{◌≡◌, map}
use Rattle.std.specs.Prelude.{filter_map}
use Rattle.rustc_texts.specs.EnvDeps.{env_dep_in}
use Rattle.rustc_texts.proofs.env_deps.parse_env_dep_info.Given as goal

-- those of the lines so far
abbrev pub invariant-loop-line : goal.invariant-loop-line
invariant-loop-line l = l.deps.items ≡ filter_map env_dep_in (map (λ line. line.now) l.yielded)
