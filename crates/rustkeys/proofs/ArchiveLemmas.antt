-- Digests of static libraries, one by one.
use Rattle.std.proofs.Common.{◌≡◌, Bool, true, false, not, List, [], ◌∷◌, Some, None, refl, ap, sym, ◌∙◌, if◌then◌else◌}
use Rattle.std.specs.Prelude.{find}
use Rattle.std.specs.Option.{option_map}
use Rattle.base_files.specs.Bytes.{Bytes}
use Rattle.ckeys_records.specs.declared.fault.Fault.{Fault}
use Rattle.ckeys_records.specs.declared.fault.Fault.TheVariants.{BadDigest}
use Rattle.rustc_parts.specs.Formed.{digest_digits, is_digest}
use Rattle.rustkeys.specs.Calls.{digest_fault_of}

-- a library whose digest is one is passed over
pub next_fault : (path digest : Bytes) (others : List (Bytes × Bytes)) → is_digest digest_digits digest ≡ true → digest_fault_of ((path, digest) ∷ others) ≡ digest_fault_of others
next_fault path digest others h = ap (λ b. option_map (λ (a : Bytes × Bytes). BadDigest a.0) (if not b then Some (path, digest) else find (λ (a : Bytes × Bytes). not (is_digest digest_digits a.1)) others)) h

-- and the fault of the first alone is that of all
pub first_fault : (path digest : Bytes) (others : List (Bytes × Bytes)) (fault : Fault) → digest_fault_of ((path, digest) ∷ []) ≡ Some fault → digest_fault_of ((path, digest) ∷ others) ≡ Some fault
first_fault path digest others fault h = by (is_digest digest_digits digest) refl
  where
    by : (b : Bool) → is_digest digest_digits digest ≡ b → digest_fault_of ((path, digest) ∷ others) ≡ Some fault
    by true e = absurd (let none : None ≡ Some fault = sym (next_fault path digest [] e) ∙ h in cc)
    by false e = ap (λ b. option_map (λ (a : Bytes × Bytes). BadDigest a.0) (if not b then Some (path, digest) else find (λ (a : Bytes × Bytes). not (is_digest digest_digits a.1)) others)) e ∙ sym (ap (λ b. option_map (λ (a : Bytes × Bytes). BadDigest a.0) (if not b then Some (path, digest) else None)) e) ∙ h
