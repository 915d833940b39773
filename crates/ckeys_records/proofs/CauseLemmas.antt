-- Causes of faults: what holds in each stage, and what follows from a cause.
use Rattle.std.proofs.Common.{◌≡◌, inl, inr, refl, ap, ◌∙◌, Option, Some, None}
use Rattle.std.specs.Option.{option_map}
use Rattle.base_files.specs.Bytes.{Bytes}
use Rattle.ckeys_records.specs.Faults.{FileCause}
use Rattle.ckeys_records.specs.Causes.{Cause, of_memory, of_file, of_tool, of_key, of_compile, Stage, any_time, before_compile, in_compile, ByStage, IsCaused, IsCausedBy, cause_of, no_step, stage_by, stage_of}
use Rattle.ckeys_records.specs.declared.fault.Fault.{Fault}
use Rattle.ckeys_records.specs.declared.fault.Fault.TheVariants.{Memory, Read, Tool}
use Rattle.ckeys_records.specs.declared.step.Step.{Step}
use Rattle.ckeys_records.specs.declared.step.Step.TheVariants.{Preprocess, Compile, DepInfo, FileNames, ArchiveDigest}

-- what holds in each stage
pub by_stage : (stage : Stage) {P Q R A B C : Type 0} → (P → A) → (Q → B) → (R → C) → ByStage stage P Q R → ByStage stage A B C
by_stage any_time p q r h = p h
by_stage before_compile p q r h = q h
by_stage in_compile p q r h = r h

-- a cause among fewer is one among more
pub caused_more : (first more : Option Fault) (later on_file : Bytes → Type 0) (in_later in_step : Step → Type 0) → ((fault : Fault) → first ≡ Some fault → more ≡ Some fault) → ((name : Bytes) → later name → on_file name) → ((step : Step) → in_later step → in_step step) → (fault : Fault) → IsCaused first later in_later fault → IsCaused more on_file in_step fault
caused_more first more later on_file in_later in_step is lift in_more fault h = by (cause_of fault) h
  where
    by : (cause : Cause) → IsCausedBy first later in_later fault cause → IsCausedBy more on_file in_step fault cause
    by of_memory h = tt
    by (of_file name) (inl h) = inl (lift name h)
    by (of_file name) (inr h) = inr (is fault h)
    by (of_tool step) h = in_more step h
    by (of_key step) h = is fault h
    by of_compile h = is fault h

-- a file that can't be had is no fault of the compile
pub file_early : (missing : Option Bytes) (on_file : Bytes → Type 0) (fault : Fault) → FileCause missing on_file fault → ByStage (stage_of fault) (Unit {0}) (FileCause missing on_file fault) ⊥
file_early missing on_file fault h = by (cause_of fault) refl h
  where
    never : (o : Option Bytes) → option_map Read o ≡ Some fault → cause_of fault ≡ of_compile → ⊥
    never None is compiled = cc
    never (Some path) is compiled =
        let same : Read path ≡ fault = cc in
        let on_path : of_file path ≡ of_compile = ap cause_of same ∙ compiled in
        cc

    by : (cause : Cause) → cause_of fault ≡ cause → IsCausedBy (option_map Read missing) on_file no_step fault cause → ByStage (stage_by cause) (Unit {0}) (IsCausedBy (option_map Read missing) on_file no_step fault cause) ⊥
    by of_memory e h = tt
    by (of_file name) e h = h
    by (of_tool step) e h = absurd h
    by (of_key step) e h = h
    by of_compile e h = never missing h e

-- only out of memory comes at any time
pub memory_is : (fault : Fault) → stage_of fault ≡ any_time → fault ≡ Memory
memory_is Memory e = refl
memory_is (Tool Preprocess) e = cc
memory_is (Tool Compile) e = cc
memory_is (Tool DepInfo) e = cc
memory_is (Tool FileNames) e = cc
memory_is (Tool ArchiveDigest) e = cc
memory_is fault e = cc

-- a fault that is neither out of memory nor an I/O error is the first one
pub first_alone : (first : Option Fault) (on_file : Bytes → Type 0) (in_step : Step → Type 0) (fault : Fault) → (fault ≡ Memory → ⊥) → ((name : Bytes) → on_file name → ⊥) → ((step : Step) → in_step step → ⊥) → IsCaused first on_file in_step fault → first ≡ Some fault
first_alone first on_file in_step fault not_memory not_file not_tool h = by (cause_of fault) refl h
  where
    by : (cause : Cause) → cause_of fault ≡ cause → IsCausedBy first on_file in_step fault cause → first ≡ Some fault
    by of_memory e h = absurd (not_memory (memory_is fault (ap stage_by e)))
    by (of_file name) e (inl h) = absurd (not_file name h)
    by (of_file name) e (inr h) = h
    by (of_tool step) e h = absurd (not_tool step h)
    by (of_key step) e h = h
    by of_compile e h = h
