use Rattle.std.proofs.Common.{Option, length}
use Rattle.wrap_fingerprints.specs.Explaining.{AgreeIn, IsFound}
use Rattle.wrap_fingerprints.specs.declared.part.Part.{Part}
use Rattle.wrap_fingerprints.proofs.explain.first_unlike.Given as goal

-- what is the first of those that are left is the first of all
abbrev pub invariant-loop-part : goal.invariant-loop-part
invariant-loop-part l = (found : Option Part) → IsFound (AgreeIn l.one l.other) l.rest found → IsFound (AgreeIn l.one l.other) l.fn.parts found

abbrev pub decreases-loop-part : goal.decreases-loop-part
decreases-loop-part l = length l.rest
