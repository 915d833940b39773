use Rattle.std.proofs.Common.{◌≡◌, ◌++◌, length}
use Rattle.cmdlines_response_files.specs.Decoding.{odd_byte, units}
use Rattle.cmdlines_response_files.proofs.decoding.utf16_text.Given as goal

-- the units so far and those of the bytes that are left, of which an odd one is last
abbrev pub invariant-loop-rest : goal.invariant-loop-rest
invariant-loop-rest l = record {
  read : l.units.items ++ units l.high_first l.rest ≡ units l.fn.high_first l.fn.bytes;
  odd : odd_byte l.rest ≡ odd_byte l.fn.bytes;
  order : l.high_first ≡ l.fn.high_first;
}

abbrev pub decreases-loop-rest : goal.decreases-loop-rest
decreases-loop-rest l = length l.rest
