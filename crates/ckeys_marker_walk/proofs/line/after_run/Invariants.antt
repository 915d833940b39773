use Rattle.std.proofs.Common.{◌≡◌, length}
use Rattle.ckeys_marker_walk.specs.Markers.{is_within}
use Rattle.ckeys_marker_walk.specs.Scanning.{after_run}
use Rattle.ckeys_marker_walk.proofs.line.after_run.Given as goal

-- what comes after the run is the same for what is left
abbrev pub invariant-loop-first : goal.invariant-loop-first
invariant-loop-first l = after_run (is_within l.low l.high) l.rest ≡ after_run (is_within l.low l.high) l.fn.bytes

abbrev pub decreases-loop-first : goal.decreases-loop-first
decreases-loop-first l = length l.rest
