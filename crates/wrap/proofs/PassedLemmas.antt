-- Faults of requests that are passed through.
use Rattle.std.proofs.Common.{◌≡◌, Result, Ok, Err, IfErr, sym, subst}
use Rattle.std.specs.Result.{IsErrAnd}
use Rattle.base_files.specs.Bytes.{Bytes}
use Rattle.ckeys_records.specs.declared.fault.Fault.{Fault}
use Rattle.wrap_base.specs.declared.answer.Answer.{Answer}
use Rattle.wrap_keys.specs.Account.{Account, passed, worked}
use Rattle.wrap_keys.specs.Answers.{EarlyCause}
use Rattle.wrap_keys.specs.Early.{OfPassed}

-- what holds of any request holds of one that is passed through
of_any : (a : Account) (P : Type 0) → P → OfPassed a P
of_any (passed why) P h = h
of_any (worked w) P h = tt

-- a fault before the verdict
pub early_passed : (a : Account) (asked : Bytes → Type 0) (fault : Fault) → EarlyCause asked fault → (result : Result Answer Fault) → IsErrAnd result (λ f. f ≡ fault) → IfErr result (λ f. OfPassed a (EarlyCause asked f))
early_passed a asked fault h (Ok answer) is = tt
early_passed a asked fault h (Err f) is = of_any a (EarlyCause asked f) (subst (EarlyCause asked) (sym is) h)

-- nothing is said of a fault of a request that isn't passed through
pub not_passed : (result : Result Answer Fault) → IfErr result (λ f. Unit {0})
not_passed (Ok answer) = tt
not_passed (Err fault) = tt
