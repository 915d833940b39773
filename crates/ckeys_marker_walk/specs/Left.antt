-- What an iterator over markers still gives.
use Rattle.std.specs.Prelude.{List}
use Rattle.ckeys_marker_walk.specs.declared.markers.Markers.{Markers}
use Rattle.ckeys_marker_walk.specs.Scanning.{Sight, sights}

abbrev pub sights_left : Markers → List Sight
sights_left s = sights s.rest.now
