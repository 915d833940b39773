use Rattle.std.proofs.Common.{◌≡◌, take}
use Rattle.std.specs.List.{flat_map}
use Rattle.cache_files.specs.Manifests.{included}
use Rattle.cache_files.proofs.manifests.names_in.Given as goal

abbrev pub invariant-loop-result : goal.invariant-loop-result
invariant-loop-result l = l.names ≡ flat_map (λ r. included r.includes) (take l.result-index l.results)
