-- Faults on their way to the answer of a call.
use Rattle.std.proofs.Common.{◌≡◌, ℕ, Result, Ok, Err, IfErr, IsErrAnd, sym, subst, ◌∙◌}
use Rattle.base_files.specs.Bytes.{Bytes}
use Rattle.base_files.specs.Fails.{FailsOn}
use Rattle.base_files.specs.Tree.{Tree}
use Rattle.ckeys_records.specs.Meaning.{FailsIn, Meaning}
use Rattle.ckeys_records.specs.declared.fault.Fault.{Fault}
use Rattle.ckeys_records.specs.declared.step.Step.{Step}

-- an I/O error of the files in a later part of a call is one in the call
pub since : {F : Type 0} (tree : F → Tree) (failed : F → ℕ) (fails_on : F → Bytes → F → Type 0) (old mid new : F) → tree mid ≡ tree old → failed mid ≡ failed old → (name : Bytes) → FailsOn tree failed fails_on mid new name → FailsOn tree failed fails_on old new name
since tree failed fails_on old mid new same steady name f = record { from = f.from; same = f.same ∙ same; steady = f.steady ∙ steady; ticks = f.ticks; leads = f.leads }

-- an I/O error of the tool in a later part of a call is one in the call
pub tool_since : {T : Type 0} (meaning : T → Meaning) (failed : T → ℕ) (fails_in : T → Step → T → Type 0) (old mid new : T) → meaning mid ≡ meaning old → failed mid ≡ failed old → (step : Step) → FailsIn meaning failed fails_in mid new step → FailsIn meaning failed fails_in old new step
tool_since meaning failed fails_in old mid new same steady step f = record { from = f.from; same = f.same ∙ same; steady = f.steady ∙ steady; ticks = f.ticks; leads = f.leads }

-- what holds of a fault holds of what it became
pub on_exit : {A : Type 0} (P : Fault → Type 0) (result : Result A Fault) (fault : Fault) → IsErrAnd result (λ f. f ≡ fault) → P fault → IfErr result P
on_exit P (Ok x) fault h p = absurd h
on_exit P (Err f) fault h p = subst P (sym h) p
