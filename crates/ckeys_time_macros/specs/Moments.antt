-- Moments as numbers.
use Rattle.std.specs.Prelude.{ℤ, pos, ◌+ℤ◌, ◌*ℤ◌}
use Rattle.base_files.specs.declared.file_time.FileTime.{FileTime}
use Rattle.ckeys_time_macros.specs.declared.timestamp.Timestamp.{Timestamp}

-- how many nanoseconds after the start of 1970 in UTC
abbrev pub nanoseconds_of : Timestamp → ℤ
nanoseconds_of moment = moment.seconds *ℤ pos 1_000_000_000 +ℤ pos moment.nanoseconds

-- the timestamp that a device keeps
abbrev pub timestamp_of : FileTime → Timestamp
timestamp_of time = record { seconds = time.seconds; nanoseconds = time.nanoseconds; below_a_second = time.below_a_second }
