-- What is reported of a call of which a fingerprint is asked.
use Rattle.std.specs.Prelude.{◌≡◌, Result, Ok, Err}
use Rattle.base_files.specs.Bytes.{Bytes}
use Rattle.ckeys_records.specs.Faults.{KeyCause}
use Rattle.ckeys_records.specs.declared.fault.Fault.{Fault}
use Rattle.ckeys_records.specs.declared.step.Step.{Step}
use Rattle.wrap_base.specs.declared.reason.Reason.{Reason}
use Rattle.wrap_keys.specs.Account.{Account, Work, passed, worked}
use Rattle.wrap_keys.specs.Answers.{EarlyCause}
use Rattle.wrap_keys.specs.Verdicts.{Why, why_of}
use Rattle.wrap_fingerprints.specs.Fingerprints.{IsFingerprintOf}
use Rattle.wrap_fingerprints.specs.declared.fingerprint.Fingerprint.{Fingerprint}

-- what is reported: the fingerprint, or why the request is passed through, or a fault
abbrev pub Told : Type 0
Told = Result (Result Fingerprint Reason) Fault

-- Of a request that is passed through: it is, for the verdict's reason, or there was no verdict.
abbrev pub TellsPassed : Why → (Bytes → Type 0) → Told → Type 0
TellsPassed why on_file (Ok (Ok made)) = ⊥
TellsPassed why on_file (Ok (Err reason)) = why_of reason ≡ why
TellsPassed why on_file (Err fault) = EarlyCause on_file fault

-- Of another one: the fingerprint of its call, or a fault that the call has before its compile.
abbrev pub TellsWorked : (Bytes → Bytes) → Work → (Bytes → Type 0) → (Step → Type 0) → Told → Type 0
TellsWorked digest_of w on_file device_in (Ok (Ok made)) = IsFingerprintOf digest_of w made
TellsWorked digest_of w on_file device_in (Ok (Err reason)) = ⊥
TellsWorked digest_of w on_file device_in (Err fault) = KeyCause w.fault on_file device_in fault

abbrev pub Tells : (Bytes → Bytes) → Account → (Bytes → Type 0) → (Step → Type 0) → Told → Type 0
Tells digest_of (passed why) on_file device_in told = TellsPassed why on_file told
Tells digest_of (worked w) on_file device_in told = TellsWorked digest_of w on_file device_in told

-- a fact where the request is passed through
abbrev pub OnReason : Told → Type 0 → Type 0
OnReason (Ok (Ok made)) P = Unit {0}
OnReason (Ok (Err reason)) P = P
OnReason (Err fault) P = Unit {0}
