-- Causes, from one moment on and from an earlier one.
use Rattle.std.proofs.Common.{◌≡◌, ℕ, Result, Ok, Err, IfErr, IsErrAnd, sym, subst, ◌∙◌}
use Rattle.base_files.specs.Bytes.{Bytes}
use Rattle.base_files.specs.Fails.{FailsOn}
use Rattle.base_files.specs.Tree.{Tree}
use Rattle.cmdlines_response_files.specs.Causes.{CauseOf}
use Rattle.cmdlines_response_files.specs.declared.fault.ParseFault.{ParseFault}
use Rattle.cmdlines_response_files.specs.declared.fault.ParseFault.TheVariants.{Memory, Read}

module _ {F : Type 0} (tree : F → Tree) (failed : F → ℕ) (fails_on : F → Bytes → F → Type 0) (old mid new : F) (same : tree mid ≡ tree old) (steady : failed mid ≡ failed old) where
  cause_since : (fault : ParseFault) → CauseOf (FailsOn tree failed fails_on mid new) fault → CauseOf (FailsOn tree failed fails_on old new) fault
  cause_since Memory h = tt
  cause_since (Read path) h = record { from = h.from; same = h.same ∙ same; steady = h.steady ∙ steady; ticks = h.ticks; leads = h.leads }

  -- a fault that is handed on
  pub handed_on : {T : Type 0} (result : Result T ParseFault) (fault : ParseFault) → IsErrAnd result (λ other. other ≡ fault) → CauseOf (FailsOn tree failed fails_on mid new) fault → IfErr result (CauseOf (FailsOn tree failed fails_on old new))
  handed_on (Ok x) fault h k = tt
  handed_on (Err other) fault h k = subst (CauseOf (FailsOn tree failed fails_on old new)) (sym h) (cause_since fault k)
