use Rattle.std.proofs.Common.{◌≡◌, ◌++◌, length}
use Rattle.cmdlines_base.specs.Artifacts.{Artifacts}
use Rattle.wrap.specs.PathMap.{HasPaths}
use Rattle.wrap.proofs.outputs.paths_of.Given as goal

-- the paths of the outputs that were taken from the end
abbrev pub invariant-loop-name : goal.invariant-loop-name
invariant-loop-name l = (taken : Artifacts) × (l.outputs ≡ l.rest ++ taken) × HasPaths l.paths taken

abbrev pub decreases-loop-name : goal.decreases-loop-name
decreases-loop-name l = length l.rest
