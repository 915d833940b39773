-- Causes of faults, step by step.
use Rattle.std.proofs.Common.{◌≡◌, Option, Some, None, ap, ◌∙◌}
use Rattle.base_files.specs.Bytes.{Bytes}
use Rattle.ckeys_records.specs.Faults.{KeyCause, or_else}
use Rattle.ckeys_records.specs.Causes.{stage_of}
use Rattle.ckeys_records.specs.declared.fault.Fault.{Fault}
use Rattle.ckeys_records.specs.declared.step.Step.{Step}
use Rattle.ckeys_records.proofs.CauseLemmas.{by_stage, caused_more}

-- a cause among fewer is one among more
pub key_cause_more : (first more : Option Fault) (later on_file : Bytes → Type 0) (in_later in_step : Step → Type 0) → ((fault : Fault) → first ≡ Some fault → more ≡ Some fault) → ((name : Bytes) → later name → on_file name) → ((step : Step) → in_later step → in_step step) → (fault : Fault) → KeyCause first later in_later fault → KeyCause more on_file in_step fault
key_cause_more first more later on_file in_later in_step is lift in_more fault h = by_stage (stage_of fault) (λ u. u) (caused_more first more later on_file in_later in_step is lift in_more fault) (λ n. n) h

-- the first fault of two steps
pub first_is : (first second : Option Fault) (fault : Fault) → first ≡ Some fault → or_else first second ≡ Some fault
first_is first second fault h = ap (λ f. or_else f second) h

pub second_is : (first second : Option Fault) → first ≡ None → (fault : Fault) → second ≡ Some fault → or_else first second ≡ Some fault
second_is first second none fault h = ap (λ f. or_else f second) none ∙ h
