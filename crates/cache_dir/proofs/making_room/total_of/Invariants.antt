use Rattle.std.proofs.Common.{◌≡◌, take}
use Rattle.cache_dir.specs.Together.{bytes_together, saturated}
use Rattle.cache_dir.proofs.making_room.total_of.Given as goal

-- the total of the files so far
abbrev pub invariant-loop-file : goal.invariant-loop-file
invariant-loop-file l = l.total ≡ saturated (bytes_together (take l.file-index l.files))
