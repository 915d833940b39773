-- How often the preprocessor ran before there is a verdict, and before there is a key.
use Rattle.std.proofs.Common.{◌≡◌, ℕ, Bool, false, Option, Some, None, Result, Ok, Err, inl, inr, refl, IsErrAnd}
use Rattle.std.proofs.lemmas.Result.{err_from_is_err_and}
use Rattle.base_files.specs.Bytes.{Bytes, ticked}
use Rattle.ckeys.specs.EntryTurns.{KeyRuns, RunsUntil, RunsUntilKey, RunsUntilStep}
use Rattle.ckeys_records.specs.declared.fault.Fault.{Fault}
use Rattle.ckeys_records.specs.Causes.{Cause, of_memory, of_file, of_tool, of_key, of_compile, IsCausedBy, cause_of, no_step, step_by, step_of}
use Rattle.ckeys_records.specs.declared.step.Step.{Step}
use Rattle.ckeys_records.specs.declared.step.Step.TheVariants.{Preprocess, Compile, DepInfo, FileNames, ArchiveDigest}
use Rattle.rustkeys.specs.Runs.{AtMostTwice}
use Rattle.wrap_keys.specs.Account.{Account, passed, worked}
use Rattle.wrap_keys.specs.Answers.{EarlyCause}
use Rattle.wrap_keys.specs.Asking.{IsAskedTwice, RunsEarly, RunsIn, RunsOf, RunsOfRecord}
use Rattle.wrap_keys.specs.CallRecords.{CallRecord, of_c, of_rustc}

-- before a fault of the key
pub key_until : (from : Bool) (before after : ℕ) (fault : Fault) → RunsUntilKey before after fault → RunsUntil fault (KeyRuns from before after) before after
key_until from before after fault h = by (step_of fault) h
  where
    by : (step : Option Step) → RunsUntilStep step ⊥ before after → RunsUntilStep step (KeyRuns from before after) before after
    by None h = h
    by (Some Preprocess) h = h
    by (Some Compile) h = absurd h
    by (Some DepInfo) h = absurd h
    by (Some FileNames) h = absurd h
    by (Some ArchiveDigest) h = absurd h

-- nothing ran
none_ran : (A : Type 0) (r : CallRecord) (n : ℕ) (fault : Fault) → RunsIn {A = A} false (Err fault) n n → RunsOfRecord {A = A} r false (Err fault) n n
none_ran A (of_c r) n fault idle = (λ h. refl, λ h. idle)
none_ran A (of_rustc r) n fault idle = inl refl

none_early : (r : CallRecord) (n : ℕ) → RunsEarly r n n
none_early (of_c r) n = refl
none_early (of_rustc r) n = inl refl

-- before there is a verdict
pub early_runs : (A : Type 0) (a : Account) (on_file : Bytes → Type 0) (n : ℕ) (fault : Fault) → EarlyCause on_file fault → RunsOf {A = A} a false (Err fault) n n
early_runs A (passed why) on_file n fault cause = refl
early_runs A (worked w) on_file n fault cause = (none_ran A w.rec n fault (by (cause_of fault) cause), λ some. none_early w.rec n)
  where
    by : (why : Cause) → IsCausedBy None on_file no_step fault why → RunsUntilStep (step_by why) (KeyRuns false n n) n n
    by of_memory h = inl refl
    by (of_file name) h = inl refl
    by (of_tool step) h = absurd h
    by (of_key step) h = cc
    by of_compile h = cc

pub early_ran : {A : Type 0} → (a : Account) (on_file : Bytes → Type 0) (n : ℕ) (fault : Fault) → EarlyCause on_file fault → (result : Result A Fault) → IsErrAnd result (λ f. f ≡ fault) → RunsOf a false result n n
early_ran {A} a on_file n fault cause result err = let p = err_from_is_err_and result err in rw (p.1, p.2) (early_runs A a on_file n fault cause)

-- how often rustc was asked, once its answers were there
pub asked_twice : {A : Type 0} → (result : Result A Fault) (before after : ℕ) → after ≡ ticked (ticked before) → IsAskedTwice result before after
asked_twice (Ok answer) before after h = h
asked_twice (Err fault) before after h = inr (inr h)

-- and before that
pub asked_until : {A : Type 0} → (result : Result A Fault) (fault : Fault) (before after : ℕ) → IsErrAnd result (λ f. f ≡ fault) → AtMostTwice before after → IsAskedTwice result before after
asked_until (Ok answer) fault before after err h = absurd err
asked_until (Err f) fault before after err h = h
