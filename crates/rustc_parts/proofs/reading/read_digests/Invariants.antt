use Rattle.std.proofs.Common.{◌≡◌, ◌-◌}
use Rattle.base_formats.specs.Reading.{times_at}
use Rattle.rustc_parts.specs.Formed.{digest_digits}
use Rattle.rustc_parts.specs.Reading.{digest_at}
use Rattle.rustc_parts.proofs.RowReads.{with_front}
use Rattle.rustc_parts.proofs.reading.read_digests.Given as goal

-- what was read, and what is still to be read, is all that was to be read
abbrev pub invariant-digests : goal.invariant-digests
invariant-digests l = with_front l.all.items (times_at (digest_at digest_digits) (l.count - l.counter) l.rest) ≡ times_at (digest_at digest_digits) l.count l.bytes
