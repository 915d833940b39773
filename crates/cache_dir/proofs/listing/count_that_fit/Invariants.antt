use Rattle.std.proofs.Common.{◌≡◌, ◌+◌, take}
use Rattle.cache_dir.specs.Together.{bytes_together}
use Rattle.cache_dir.proofs.listing.count_that_fit.Given as goal

-- what is left is the room without the files so far
abbrev pub invariant-loop-file : goal.invariant-loop-file
invariant-loop-file l = (l.count ≡ l.file-index) × (l.left + bytes_together (take l.file-index l.files) ≡ l.room)
