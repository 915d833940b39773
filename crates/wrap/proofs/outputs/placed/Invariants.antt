use Rattle.std.proofs.Common.{◌≡◌, take}
use Rattle.wrap_keys.specs.Account.{placed}
use Rattle.wrap.proofs.outputs.placed.Given as goal

abbrev pub invariant-loop-name : goal.invariant-loop-name
invariant-loop-name l = l.map.items ≡ placed l.outputs (take l.name-index l.pairs)
