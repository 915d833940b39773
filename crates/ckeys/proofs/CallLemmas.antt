-- Why a call has no key.
use Rattle.std.proofs.Common.{◌≡◌, inl, Option, Some, None, Result, Ok, Err, IfErr, ◌∙◌}
use Rattle.std.specs.Option.{option_map}
use Rattle.base_files.specs.Bytes.{Bytes}
use Rattle.cmdlines_response_files.specs.Causes.{CauseOf}
use Rattle.cmdlines_response_files.specs.declared.fault.ParseFault.{ParseFault}
use Rattle.cmdlines_response_files.specs.declared.fault.ParseFault.TheVariants as files_faults
use Rattle.ckeys_records.specs.Meaning.{Meaning}
use Rattle.ckeys_records.specs.Causes.{no_step, stage_of}
use Rattle.ckeys.specs.Calls.{KeyCall, extra_paths, missing_input, key_fault_of, text_fault_of}
use Rattle.ckeys_records.specs.Faults.{FileCause, KeyCause, fault_by, first_missing, or_else}
use Rattle.ckeys_records.specs.declared.fault.Fault.{Fault}
use Rattle.ckeys_records.specs.declared.fault.Fault.TheVariants.{Read}
use Rattle.ckeys_records.specs.declared.step.Step.{Step}
use Rattle.ckeys_records.proofs.CauseLemmas.{by_stage, caused_more, file_early}

-- where all extra files are there, and the input where it is needed, the first fault is the text's
pub text_first : (meaning : Meaning) (call : KeyCall) → first_missing call.scene.files (extra_paths call) ≡ None → missing_input call ≡ None → key_fault_of meaning call ≡ text_fault_of meaning call
text_first meaning call h k = λ i. or_else (option_map Read (h i)) (or_else (option_map Read (k i)) (text_fault_of meaning call))

-- the text's cause is the call's
pub cause_is : (first text_first : Option Fault) (on_file later : Bytes → Type 0) (device_in : Step → Type 0) (fault : Fault) → first ≡ text_first → ((name : Bytes) → later name → on_file name) → KeyCause text_first later device_in fault → KeyCause first on_file device_in fault
cause_is first text_first on_file later device_in fault e lift h = by_stage (stage_of fault) (λ u. u) (caused_more text_first first later on_file device_in device_in (λ f is. e ∙ is) lift (λ step d. d) fault) (λ n. n) h

-- a file that can't be had is the call's cause
pub file_cause : (first : Option Fault) (missing : Option Bytes) (on_file later : Bytes → Type 0) (device_in : Step → Type 0) → ((name : Bytes) → later name → on_file name) → ((fault : Fault) → option_map Read missing ≡ Some fault → first ≡ Some fault) → (fault : Fault) → FileCause missing later fault → KeyCause first on_file device_in fault
file_cause first missing on_file later device_in lift is fault h = by_stage (stage_of fault) (λ u. u) (caused_more (option_map Read missing) first later on_file no_step device_in is lift (λ step n. absurd n) fault) (λ n. n) (file_early missing later fault h)

pub cause_later : {A : Type 0} (result : Result A Fault) (first text_first : Option Fault) (on_file later : Bytes → Type 0) (device_in : Step → Type 0) → first ≡ text_first → ((name : Bytes) → later name → on_file name) → IfErr result (KeyCause text_first later device_in) → IfErr result (KeyCause first on_file device_in)
cause_later (Ok x) first text_first on_file later device_in e lift h = tt
cause_later (Err fault) first text_first on_file later device_in e lift h = cause_is first text_first on_file later device_in fault e lift h

-- why files can't be read is why a file can't be had
pub files_cause : (missing : Option Bytes) (on_file later : Bytes → Type 0) → ((name : Bytes) → later name → on_file name) → (fault : ParseFault) → CauseOf later fault → FileCause missing on_file (fault_by fault)
files_cause missing on_file later lift files_faults.Memory h = tt
files_cause missing on_file later lift (files_faults.Read path) h = inl (lift path h)
