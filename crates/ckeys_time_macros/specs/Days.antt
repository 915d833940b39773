-- The days of a zone.
use Rattle.std.specs.Prelude.{ℤ, pos, neg_ℤ, ◌+ℤ◌, ◌*ℤ◌, ◌≤ℤ◌, ◌<ℤ◌, Bool, ◌&&◌, int_le, if◌then◌else◌, Option, None, Some}
use Rattle.std.specs.Int.{int_div_euclid}
use Rattle.jiff_core.specs.Timestamp.{nanos_of_seconds}
use Rattle.jiff_tz.specs.PosixRule.{offset_at}
use Rattle.jiff_tz.specs.declared.posix.TimeZone.{TimeZone}

-- the rule of a zone, as contracts see a zone
abbrev pub ZoneRule : Type 0
ZoneRule = TimeZone

-- the calendar has the moment, in seconds since the start of 1970 in UTC: its years are -9999 to 9999 in each zone
abbrev pub is_in_calendar : ℤ → Bool
is_in_calendar moment = int_le (neg_ℤ (pos 377_705_023_201)) moment && int_le moment (pos 253_402_207_200)

-- what a clock in the zone shows at the moment, in seconds since its 1970 began
abbrev pub shown : ZoneRule → ℤ → ℤ
shown zone moment = moment +ℤ (offset_at zone (nanos_of_seconds moment)).seconds

-- the day of a second, counted from 1970-01-01
abbrev pub day_of : ℤ → ℤ
day_of second = int_div_euclid second (pos 86400)

-- the day that a clock in the zone shows at the moment; none outside the calendar
unfoldable pub local_day : ZoneRule → ℤ → Option ℤ
local_day zone moment = if is_in_calendar moment then Some (day_of (shown zone moment)) else None

-- the day holds the second
pub record IsDayOf (second day : ℤ) : Type 0 where
  pub begun : (day *ℤ pos 86400) ≤ℤ second
  pub not_over : second <ℤ (day *ℤ pos 86400 +ℤ pos 86400)
