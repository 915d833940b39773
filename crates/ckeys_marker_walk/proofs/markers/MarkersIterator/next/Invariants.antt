use Rattle.std.proofs.Common.{◌≡◌, length}
use Rattle.ckeys_marker_walk.specs.Scanning.{sights}
use Rattle.ckeys_marker_walk.proofs.markers.MarkersIterator.next.Given as goal

-- the lines so far were plain
abbrev pub invariant-loop-marked : goal.invariant-loop-marked
invariant-loop-marked l = sights l.self.rest.now ≡ sights l.fn.self.rest.now

abbrev pub decreases-loop-marked : goal.decreases-loop-marked
decreases-loop-marked l = length l.self.rest.now
