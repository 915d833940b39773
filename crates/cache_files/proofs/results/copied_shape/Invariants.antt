use Rattle.std.proofs.Common.{◌≡◌, take}
use Rattle.cache_files.proofs.results.copied_shape.Given as goal

abbrev pub invariant-loop-length : goal.invariant-loop-length
invariant-loop-length l = l.extra_hashes ≡ take l.length-index l.shape.extra_hashes
