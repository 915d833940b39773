use Rattle.std.proofs.Common.{◌≡◌, drop}
use Rattle.base_formats.specs.Reading.{taken_at}
use Rattle.rustc_parts.specs.Reading.{each_at}
use Rattle.rustc_parts.proofs.RowReads.{with_front}
use Rattle.rustc_parts.proofs.reading.read_each.Given as goal

-- what was read, and what is still to be read, is all that was to be read
abbrev pub invariant-words : goal.invariant-words
invariant-words l = with_front l.all.items (each_at taken_at (drop l.len-index l.lengths) l.rest) ≡ each_at taken_at l.lengths l.bytes
