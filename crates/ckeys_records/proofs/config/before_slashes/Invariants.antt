use Rattle.std.proofs.Common.{◌≡◌, length}
use Rattle.ckeys_records.specs.Folders.{without_slashes}
use Rattle.ckeys_records.proofs.config.before_slashes.Given as goal

abbrev pub invariant-loop-last : goal.invariant-loop-last
invariant-loop-last l = without_slashes l.kept ≡ without_slashes l.fn.folder

abbrev pub decreases-loop-last : goal.decreases-loop-last
decreases-loop-last l = length l.kept
