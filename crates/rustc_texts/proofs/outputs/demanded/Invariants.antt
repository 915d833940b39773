use Rattle.std.proofs.Common.{◌≡◌, map, take}
use Rattle.rustc_texts.specs.Outputs.{demanded}
use Rattle.rustc_texts.proofs.outputs.demanded.Given as goal

-- those of the names so far
abbrev pub invariant-loop-name : goal.invariant-loop-name
invariant-loop-name l = l.outputs.items ≡ map (demanded l.folder) (take l.name-index l.names)
