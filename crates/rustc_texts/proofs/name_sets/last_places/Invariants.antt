use Rattle.std.proofs.Common.{take}
use Rattle.rustc_texts.specs.Places.{TellsLast}
use Rattle.rustc_texts.proofs.name_sets.last_places.Given as goal

-- where each of the names so far occurs last
abbrev pub invariant-loop-place : goal.invariant-loop-place
invariant-loop-place l = TellsLast l.last (take l.place l.names)
