use Rattle.std.proofs.Common.{length}
use Rattle.ckeys_base.proofs.EscapeReadings.{ReadsTo}
use Rattle.ckeys_base.proofs.unescape.read_escapes.Given as goal

-- the bytes so far are spelled by what was read
abbrev pub invariant-loop-rest : goal.invariant-loop-rest
invariant-loop-rest l = ReadsTo l.text l.plain.items l.rest

abbrev pub decreases-loop-rest : goal.decreases-loop-rest
decreases-loop-rest l = length l.rest
