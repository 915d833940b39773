use Rattle.std.proofs.Common.{◌≡◌, drop}
use Rattle.rustc_parts.specs.Reading.{each_at, env_dep_at}
use Rattle.rustc_parts.proofs.RowReads.{with_front}
use Rattle.rustc_parts.proofs.reading.read_env_deps.Given as goal

-- what was read, and what is still to be read, is all that was to be read
abbrev pub invariant-deps : goal.invariant-deps
invariant-deps l = with_front l.all.items (each_at env_dep_at (drop l.is_set-index l.are_set) l.rest) ≡ each_at env_dep_at l.are_set l.bytes
