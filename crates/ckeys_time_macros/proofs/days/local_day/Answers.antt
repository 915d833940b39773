use Rattle.std.proofs.Common.{◌≡◌, ℤ, ◌+ℤ◌, sym, ap, subst, ◌∙◌, w32, w64, to_z, of_z, FitsSigned, arith, Some}
use Rattle.std.proofs.lemmas.Bool.{cond-true, cond-false}
use Rattle.std.proofs.lemmas.Int.{to_z-of_z}
use Rattle.jiff.proofs.SpanFacts.{signed_arith}
use Rattle.jiff_core.specs.Date.{epoch_day}
use Rattle.jiff_core.specs.Time.{time_nanos}
use Rattle.jiff_core.specs.Timestamp.{nanos_of_seconds, IsTimestampNanos}
use Rattle.jiff_core.specs.DateTime.{civil_nanos}
use Rattle.jiff_core.proofs.DateTimeLemmas.{time_nanos_bound, civil_nanos-parts}
use Rattle.jiff_tz.specs.Zone.{offset_at}
use Rattle.jiff_tz.specs.declared.timezone.TimeZone.{TimeZone}
use Rattle.jiff_tz.specs.declared.timezone.TimeZone.TheVariants.{Posix}
use Rattle.jiff.specs.ZoneView.{plain_zone}
use Rattle.ckeys_time_macros.specs.Days.{local_day, day_of, shown}
use Rattle.ckeys_time_macros.proofs.DayLemmas.{is_inside, is_outside, is_shown}
use Rattle.ckeys_time_macros.proofs.days.local_day.Goals as goal

pub returns-in_default : goal.returns-in_default
unfolding local_day
returns-in_default c =
    let small : FitsSigned w64 c.args.moment = c.ranges.moment in
    let outside : ¬ IsTimestampNanos (nanos_of_seconds c.args.moment) = let if_ok = simp to_z-of_z at c.in_default.ensures.succeeds in λ between. absurd (let ok = if_ok.1 between in cc) in
    sym (cond-false _ _ _ (is_outside c.args.moment outside))

pub returns : goal.returns
unfolding local_day offset_at
returns c =
    let moment : ℤ = c.args.moment in
    let zone = c.args.zone.now in
    let small : FitsSigned w64 c.args.moment = c.ranges.moment in
    let at : c.in-Ok.instant.nanosecond ≡ nanos_of_seconds c.args.moment = simp to_z-of_z at c.in-Ok.ensures.value in
    let dt = c.to_datetime-shown.result in
    let day : c.to_unix_epoch_day.result ≡ epoch_day dt.date = c.to_unix_epoch_day.ensures.value ∙ ap epoch_day (c.to_plain.ensures ∙ c.date.ensures) in
    let fits : FitsSigned w32 c.to_unix_epoch_day.result = let between = c.to_unix_epoch_day.ensures.bound in omega (arith, signed_arith) in
    let plain : to_z w32 (of_z w32 c.to_unix_epoch_day.result) ≡ c.to_unix_epoch_day.result = simp to_z-of_z in
    let rule : plain_zone c.from_plain-zone.result ≡ Posix zone = c.from_plain-zone.ensures ∙ ap Posix c.rule.ensures in
    let clock : civil_nanos dt ≡ nanos_of_seconds moment +ℤ nanos_of_seconds (offset_at (Posix zone) (nanos_of_seconds moment)) =
    c.to_datetime-shown.ensures
    ∙ ap (λ (n : ℤ). n +ℤ nanos_of_seconds (offset_at (plain_zone c.from_plain-zone.result) n)) at
    ∙ ap (λ (z : TimeZone). nanos_of_seconds moment +ℤ nanos_of_seconds (offset_at z (nanos_of_seconds moment))) rule in
    let shows : day_of (shown zone moment) ≡ epoch_day dt.date = is_shown moment (offset_at (Posix zone) (nanos_of_seconds moment)) (epoch_day dt.date) (time_nanos dt.time) (time_nanos_bound dt.time) (sym (civil_nanos-parts dt) ∙ clock) in
    sym (cond-true _ _ _ (is_inside moment (subst IsTimestampNanos at c.in-Ok.instant.in_range)) ∙ ap Some (shows ∙ sym (plain ∙ day)))
