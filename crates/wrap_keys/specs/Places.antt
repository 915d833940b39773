-- Runs described place by place: what is at one place of several lists.
use Rattle.std.specs.Prelude.{List, map, Result}
use Rattle.std.specs.List.{AllByRecursion, zip}
use Rattle.ckeys_records.specs.declared.fault.Fault.{Fault}
use Rattle.wrap_base.specs.declared.answer.Answer.{Answer}
use Rattle.wrap_keys.specs.Account.{Account}
use Rattle.wrap_keys.specs.Whole.{Agree, Served, Ticks, outputs_in}

-- what is at one place of three lists, for each place that all of them have
abbrev pub beside : {A B C : Type 0} → List A → List B → List C → List (A × (B × C))
beside begins ends results = zip begins (zip ends results)

-- a call as it begins, as it ends, and what it answered
abbrev pub served_as : (Account × Ticks) × (Ticks × Result Answer Fault) → Served
served_as call = record { account = call.0.0; before = call.0.1; after = call.1.0; result = call.1.1 }

-- the calls of a run
abbrev pub calls_beside : List (Account × Ticks) → List Ticks → List (Result Answer Fault) → List Served
calls_beside begins ends results = map served_as (beside begins ends results)

-- it holds of what is at each place
abbrev pub AtEachPlace : {A B : Type 0} → (A → A → B → Type 0) → List A → List A → List B → Type 0
AtEachPlace P begins ends results = AllByRecursion (λ call. P call.0 call.1.0 call.1.1) (beside begins ends results)

-- the outputs of two calls agree
abbrev pub AgreeOn : Served × Served → Type 0
AgreeOn calls = Agree (outputs_in calls.0.result) (outputs_in calls.1.result)

-- those of two runs do at each place
abbrev pub AgreeAtEachPlace : List Served → List Served → Type 0
AgreeAtEachPlace one two = AllByRecursion AgreeOn (zip one two)
