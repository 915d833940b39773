use Rattle.std.proofs.Common.{take}
use Rattle.rustc_texts.specs.Outputs.{Tells}
use Rattle.rustc_texts.proofs.name_sets.name_set.Given as goal

-- the set contains the names so far
abbrev pub invariant-loop-name : goal.invariant-loop-name
invariant-loop-name l = Tells l.known (take l.name-index l.names)
