use Rattle.std.proofs.Common.{◌≡◌, false, take, drop}
use Rattle.ckeys_marker_walk.specs.Scanning.{name_from}
use Rattle.ckeys_marker_walk.proofs.Quoting.{led_all}
use Rattle.ckeys_marker_walk.proofs.line.name_in.Given as goal

-- the bytes so far lead the name that the others make
abbrev pub invariant-loop-i : goal.invariant-loop-i
invariant-loop-i l = led_all (take l.i l.bytes) (name_from l.escaped (drop l.i l.bytes)) ≡ name_from false l.bytes
