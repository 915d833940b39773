-- What is reported before there is a verdict, and of files as they were before.
use Rattle.std.proofs.Common.{◌≡◌, ℕ, false, true, None, Err, IsErrAnd}
use Rattle.std.proofs.lemmas.Result.{err_from_is_err_and}
use Rattle.base_files.specs.Bytes.{Bytes}
use Rattle.cmdlines_tables.specs.declared.language.Language.{Language}
use Rattle.ckeys.specs.Calls.{needs_preprocessing}
use Rattle.ckeys.specs.EntryTurns.{RunsUntilKey}
use Rattle.ckeys_records.specs.Faults.{KeyCause}
use Rattle.ckeys_records.specs.Causes.{no_step, stage_of}
use Rattle.ckeys_records.specs.declared.fault.Fault.{Fault}
use Rattle.ckeys_records.specs.declared.step.Step.{Step}
use Rattle.ckeys_records.proofs.CauseLemmas.{by_stage, caused_more, file_early}
use Rattle.wrap_keys.specs.Account.{Account, Work, passed, worked}
use Rattle.wrap_keys.specs.Answers.{EarlyCause}
use Rattle.wrap_keys.specs.Asking.{RunsIn}
use Rattle.wrap_keys.proofs.RunLemmas.{key_until}
use Rattle.wrap_fingerprints.specs.Telling.{Tells, Told}

-- a cause that comes before there is a verdict is one that comes before the compile
early_key : (w : Work) (on_file : Bytes → Type 0) (device_in : Step → Type 0) (fault : Fault) → EarlyCause on_file fault → KeyCause w.fault on_file device_in fault
early_key w on_file device_in fault h = by_stage (stage_of fault) (λ u. u) (caused_more None w.fault on_file on_file no_step device_in (λ g e. cc) (λ name d. d) (λ step n. absurd n) fault) (λ n. absurd n) (file_early None on_file fault h)

-- a fault that comes before there is a verdict
pub early_tells : (digest_of : Bytes → Bytes) (a : Account) (on_file : Bytes → Type 0) (device_in : Step → Type 0) (fault : Fault) → EarlyCause on_file fault → (told : Told) → IsErrAnd told (λ f. f ≡ fault) → Tells digest_of a on_file device_in told
early_tells digest_of a on_file device_in fault cause told err = let p = err_from_is_err_and told err in rw (p.1, p.2) (tells a)
  where
    tells : (b : Account) → Tells digest_of b on_file device_in (Err fault)
    tells (passed why) = cause
    tells (worked w) = early_key w on_file device_in fault cause

-- a cause of files as they were before
pub key_later : (w : Work) (one other : Bytes → Type 0) (device_in : Step → Type 0) → ((name : Bytes) → one name → other name) → (fault : Fault) → KeyCause w.fault one device_in fault → KeyCause w.fault other device_in fault
key_later w one other device_in more fault h = by_stage (stage_of fault) (λ u. u) (caused_more w.fault w.fault one other device_in device_in (λ f e. e) more (λ step d. d) fault) (λ n. n) h

-- a fault that comes before the compile
pub fault_tells : (digest_of : Bytes → Bytes) (w : Work) (on_file : Bytes → Type 0) (device_in : Step → Type 0) (fault : Fault) → KeyCause w.fault on_file device_in fault → (told : Told) → IsErrAnd told (λ f. f ≡ fault) → Tells digest_of (worked w) on_file device_in told
fault_tells digest_of w on_file device_in fault cause told err = let p = err_from_is_err_and told err in rw (p.1, p.2) cause

-- how often the preprocessor ran before a fault
pub until_told : (language : Language) (before after : ℕ) (fault : Fault) → (needs_preprocessing language ≡ false → after ≡ before) → (needs_preprocessing language ≡ true → RunsUntilKey before after fault) → (told : Told) → IsErrAnd told (λ f. f ≡ fault)
    → (needs_preprocessing language ≡ false → after ≡ before) × (needs_preprocessing language ≡ true → RunsIn false told before after)
until_told language before after fault idle until told err = let p = err_from_is_err_and told err in rw (p.1, p.2) (idle, λ h. key_until false before after fault (until h))
