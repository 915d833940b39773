use Rattle.std.proofs.Common.{◌≡◌, ◌++◌, drop}
use Rattle.ckeys_marker_walk.specs.Spelling.{meant_from, meant}
use Rattle.ckeys_marker_walk.proofs.names.without_escapes.Given as goal

-- what is meant so far, and then by the other bytes
abbrev pub invariant-loop-byte : goal.invariant-loop-byte
invariant-loop-byte l = l.name.items ++ meant_from l.escaped (drop l.byte-index l.raw) ≡ meant l.fn.raw
