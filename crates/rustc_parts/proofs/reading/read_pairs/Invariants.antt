use Rattle.std.proofs.Common.{◌≡◌, ◌-◌}
use Rattle.base_formats.specs.Reading.{times_at}
use Rattle.rustc_parts.specs.Reading.{pair_at}
use Rattle.rustc_parts.proofs.RowReads.{with_front}
use Rattle.rustc_parts.proofs.reading.read_pairs.Given as goal

-- what was read, and what is still to be read, is all that was to be read
abbrev pub invariant-pairs : goal.invariant-pairs
invariant-pairs l = with_front l.all.items (times_at pair_at (l.count - l.counter) l.rest) ≡ times_at pair_at l.count l.bytes
