use Rattle.std.proofs.Common.{◌≡◌, ◌*◌, ◌^◌, ◌≤◌, take}
use Rattle.wrap_keys.specs.Sizes.{size_of}
use Rattle.wrap.proofs.sizes.size_of.Given as goal

-- the size of the outputs so far, of which each has a length of 64 bits
abbrev pub invariant-loop-pair : goal.invariant-loop-pair
invariant-loop-pair l = (l.size ≡ size_of (take l.pair-index l.pairs)) × (l.size ≤ l.pair-index * 2 ^ 64)
