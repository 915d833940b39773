use Rattle.std.proofs.Common.{◌≡◌, ◌++◌, take}
use Rattle.rustc_parts.specs.Material.{joined}
use Rattle.rustc_parts.proofs.writing.put_joined.Given as goal

abbrev pub invariant-loop-piece : goal.invariant-loop-piece
invariant-loop-piece l = l.out.items ≡ l.fn.out.items ++ joined (take l.piece-index l.pieces)
