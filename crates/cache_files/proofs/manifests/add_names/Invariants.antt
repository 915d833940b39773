use Rattle.std.proofs.Common.{◌≡◌, ◌++◌, take}
use Rattle.cache_files.specs.Manifests.{included}
use Rattle.cache_files.proofs.manifests.add_names.Given as goal

abbrev pub invariant-loop-include : goal.invariant-loop-include
invariant-loop-include l = l.names ≡ l.fn.names ++ included (take l.include-index l.includes)
