use Rattle.std.proofs.Common.{◌≡◌, take, sum}
use Rattle.cache_dir.specs.Together.{saturated}
use Rattle.cache_dir.proofs.sizes.sum_of.Given as goal

-- the total of the numbers so far
abbrev pub invariant-loop-number : goal.invariant-loop-number
invariant-loop-number l = l.total ≡ saturated (sum (take l.number-index l.numbers))
