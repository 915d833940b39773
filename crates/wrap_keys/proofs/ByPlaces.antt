-- What is said of runs call by call is what is said of them place by place.
use Rattle.std.proofs.Common.{◌≡◌, ◌↔◌, List, [], ◌∷◌, Result, refl, ap}
use Rattle.ckeys_records.specs.declared.fault.Fault.{Fault}
use Rattle.wrap_base.specs.declared.answer.Answer.{Answer}
use Rattle.wrap_keys.specs.Account.{Account}
use Rattle.wrap_keys.specs.Places.{AgreeAtEachPlace, AtEachPlace, calls_beside, served_as}
use Rattle.wrap_keys.specs.Whole.{Each, SameOutputs, Served, Ticks, served}

pub served_beside : (begins : List (Account × Ticks)) (ends : List Ticks) (results : List (Result Answer Fault)) → served begins ends results ≡ calls_beside begins ends results
served_beside [] ends results = refl
served_beside (b ∷ begins) [] results = refl
served_beside (b ∷ begins) (e ∷ ends) [] = refl
served_beside (b ∷ begins) (e ∷ ends) (r ∷ results) = ap (λ (l : List Served). served_as (b, (e, r)) ∷ l) (served_beside begins ends results)

pub agree_beside : (one two : List Served) → SameOutputs one two ↔ AgreeAtEachPlace one two
agree_beside [] two = (λ h. h, λ h. h)
agree_beside (s ∷ one) [] = (λ h. h, λ h. h)
agree_beside (s ∷ one) (t ∷ two) =
    let rest = agree_beside one two in
    (λ h. (h.0, rest.0 h.1), λ h. (h.0, rest.1 h.1))

module _ {A B : Type 0} (P : A → A → B → Type 0) where
  pub each_beside : (begins ends : List A) (results : List B) → Each P begins ends results ↔ AtEachPlace P begins ends results
  each_beside [] ends results = (λ h. h, λ h. h)
  each_beside (b ∷ begins) [] results = (λ h. h, λ h. h)
  each_beside (b ∷ begins) (e ∷ ends) [] = (λ h. h, λ h. h)
  each_beside (b ∷ begins) (e ∷ ends) (r ∷ results) =
      let rest = each_beside begins ends results in
      (λ h. (h.0, rest.0 h.1), λ h. (h.0, rest.1 h.1))
