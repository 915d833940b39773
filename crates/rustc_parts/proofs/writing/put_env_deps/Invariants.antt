use Rattle.std.proofs.Common.{◌≡◌, ◌++◌, take}
use Rattle.std.specs.List.{flat_map}
use Rattle.rustc_parts.specs.Material.{env_dep_bytes}
use Rattle.rustc_parts.proofs.writing.put_env_deps.Given as goal

abbrev pub invariant-loop-dep : goal.invariant-loop-dep
invariant-loop-dep l = l.out.items ≡ l.fn.out.items ++ flat_map env_dep_bytes (take l.dep-index l.deps)
