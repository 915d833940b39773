use Rattle.std.proofs.Common.{◌≡◌, map, take}
use Rattle.wrap_base.specs.Outputs.{pair_of}
use Rattle.wrap_base.proofs.answer.pairs_of.Given as goal

abbrev pub invariant-loop-output : goal.invariant-loop-output
invariant-loop-output l = l.pairs ≡ map pair_of (take l.output-index l.outputs)
