-- Days, and whether the calendar has a moment.
use Rattle.std.proofs.Common.{◌≡◌, ℕ, ◌<◌, ℤ, pos, neg_ℤ, ◌+ℤ◌, ◌*ℤ◌, arith, Bool, true, false, inl, inr}
use Rattle.std.specs.Prelude.{int_le}
use Rattle.std.proofs.lemmas.Bool.{cases_Bool, and_from, and_parts}
use Rattle.jiff.proofs.SpanFacts.{signed_arith}
use Rattle.jiff_core.specs.Timestamp.{nanos_of_seconds, IsTimestampNanos}
use Rattle.ckeys_time_macros.specs.Days.{is_in_calendar, day_of, IsDayOf}

-- the first second is in the calendar or before it, and the last is in it or after it
abbrev is_begun : ℤ → Bool
is_begun moment = int_le (neg_ℤ (pos 377_705_023_201)) moment

abbrev is_not_over : ℤ → Bool
is_not_over moment = int_le moment (pos 253_402_207_200)

pub is_inside : (moment : ℤ) → IsTimestampNanos (nanos_of_seconds moment) → is_in_calendar moment ≡ true
is_inside moment between =
    let begun : is_begun moment ≡ true = elim (cases_Bool (is_begun moment)) [ inl t ↦ t | inr f ↦ absurd (omega (arith, signed_arith, between, f)) ] in
    let not_over : is_not_over moment ≡ true = elim (cases_Bool (is_not_over moment)) [ inl t ↦ t | inr f ↦ absurd (omega (arith, signed_arith, between, f)) ] in
    and_from (is_begun moment) (is_not_over moment) begun not_over

is_between : (moment : ℤ) → is_in_calendar moment ≡ true → IsTimestampNanos (nanos_of_seconds moment)
is_between moment inside = let parts = and_parts (is_begun moment) (is_not_over moment) inside in (omega (arith, signed_arith, parts.0), omega (arith, signed_arith, parts.1))

pub is_outside : (moment : ℤ) → ¬ IsTimestampNanos (nanos_of_seconds moment) → is_in_calendar moment ≡ false
is_outside moment apart = elim (cases_Bool (is_in_calendar moment)) [
  | inl inside ↦ absurd (apart (is_between moment inside))
  | inr outside ↦ outside
]

-- a clock that shows some nanoseconds shows this day
pub is_shown : (moment offset day : ℤ) (rest : ℕ) → rest < 86_400_000_000_000 → (day *ℤ pos 86_400_000_000_000) +ℤ pos rest ≡ nanos_of_seconds moment +ℤ nanos_of_seconds offset → day_of (moment +ℤ offset) ≡ day
is_shown moment offset day rest small same = omega (arith, signed_arith)

pub day_holds : (second : ℤ) → IsDayOf second (day_of second)
day_holds second = record { begun = omega (arith, signed_arith); not_over = omega (arith, signed_arith) }
