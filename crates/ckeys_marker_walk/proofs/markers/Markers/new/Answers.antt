use Rattle.ckeys_marker_walk.proofs.Telling.{tell_found}
use Rattle.ckeys_marker_walk.specs.Lines.{lines}
use Rattle.ckeys_marker_walk.proofs.markers.Markers.new.Goals as goal

pub returns-clause-lines : goal.returns-clause-lines
returns-clause-lines c = tell_found (lines c.args.text.now)
