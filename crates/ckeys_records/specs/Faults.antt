-- The fault of what a call needs, and what causes it.
use Rattle.std.specs.Prelude.{pos, if◌then◌else◌, List, find, Option, None, Some, is_none}
use Rattle.std.specs.Option.{option_map}
use Rattle.std.specs.Ordering.{int_eq}
use Rattle.base_files.specs.Bytes.{Bytes}
use Rattle.base_files.specs.Tree.{Tree, contents_at}
use Rattle.cmdlines_response_files.specs.declared.fault.ParseFault.{ParseFault}
use Rattle.cmdlines_response_files.specs.declared.fault.ParseFault.TheVariants as files_faults
use Rattle.ckeys_records.specs.Causes.{ByStage, IsCaused, no_step, stage_of}
use Rattle.ckeys_records.specs.Meaning.{Made}
use Rattle.ckeys_records.specs.declared.fault.Fault.{Fault}
use Rattle.ckeys_records.specs.declared.fault.Fault.TheVariants.{Memory, Read, PreprocessFailed}
use Rattle.ckeys_records.specs.declared.step.Step.{Step}

-- the first of these that isn't a regular file
abbrev pub first_missing : Tree → List Bytes → Option Bytes
first_missing tree paths = find (λ path. is_none (contents_at tree path)) paths

-- the fault where one of these files isn't there
abbrev pub read_fault_of : Tree → List Bytes → Option Fault
read_fault_of tree paths = option_map Read (first_missing tree paths)

-- the fault of the preprocessor
abbrev pub preprocess_fault_of : Made → Option Fault
preprocess_fault_of made = if int_eq made.status (pos 0) then None else Some (PreprocessFailed made.status)

-- the first that there is
abbrev pub or_else : Option Fault → Option Fault → Option Fault
or_else None second = second
or_else (Some fault) second = Some fault

-- the fault of a call whose files can't be read
abbrev pub fault_by : ParseFault → Fault
fault_by files_faults.Memory = Memory
fault_by (files_faults.Read path) = Read path

-- Why a file that is needed can't be had: out of memory; or an I/O error on it; or it is the first one that isn't there.
abbrev pub FileCause : Option Bytes → (Bytes → Type 0) → Fault → Type 0
FileCause missing on_file fault = IsCaused (option_map Read missing) on_file no_step fault

-- Why there is no key: a cause that comes before the compile.
abbrev pub KeyCause : Option Fault → (Bytes → Type 0) → (Step → Type 0) → Fault → Type 0
KeyCause first on_file device_in fault = ByStage (stage_of fault) (Unit {0}) (IsCaused first on_file device_in fault) ⊥
