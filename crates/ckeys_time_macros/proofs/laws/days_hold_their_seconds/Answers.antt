use Rattle.std.proofs.Common.{◌≡◌, ℤ, Option, Some, None, sym, ap, subst, ◌∙◌, inl, inr}
use Rattle.std.specs.Prelude.{unwrap_or}
use Rattle.std.proofs.lemmas.Bool.{cases_Bool, cond-true, cond-false}
use Rattle.ckeys_time_macros.specs.Days.{local_day, is_in_calendar, IsDayOf, shown}
use Rattle.ckeys_time_macros.proofs.DayLemmas.{day_holds}
use Rattle.ckeys_time_macros.proofs.laws.days_hold_their_seconds.Goals as goal

pub returns : goal.returns
unfolding local_day
returns c = λ zone moment day is. elim (cases_Bool (is_in_calendar moment)) [
  | inl inside ↦ subst (IsDayOf (shown zone moment)) (ap (λ (o : Option ℤ). unwrap_or o day) (sym (cond-true _ _ _ inside) ∙ is)) (day_holds (shown zone moment))
  | inr outside ↦ absurd (let none : None ≡ Some day = sym (cond-false _ _ _ outside) ∙ is in cc)
]
