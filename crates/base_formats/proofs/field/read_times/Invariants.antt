use Rattle.std.proofs.Common.{◌≡◌, ◌-◌}
use Rattle.base_formats.specs.Reading.{times_at}
use Rattle.base_formats.proofs.RepeatedReads.{with_front}
use Rattle.base_formats.proofs.field.read_times.Given as goal

-- what was read, and what is still to be read, is all that was to be read
abbrev pub invariant-all : goal.invariant-all
invariant-all g l = with_front l.all.items (times_at g.T.Field.reads (l.count - l.counter) l.rest) ≡ times_at g.T.Field.reads l.count l.bytes
