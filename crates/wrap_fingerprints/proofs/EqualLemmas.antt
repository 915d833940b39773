-- What `==` says of the pieces of parts.
use Rattle.std.proofs.Common.{◌≡◌, Bool, true, false, ◌&&◌, Option, None, Some, nat_eq, refl, ap}
use Rattle.std.specs.Bool.{Decides}
use Rattle.std.specs.Cmp.{unsigned_Decides, booleans_Decides}
use Rattle.std.specs.Cmp.Lexicographic.{pointwise}
use Rattle.std.specs.Option.{option_eq}
use Rattle.std.proofs.lemmas.Slice.Eq.{slice_eq-Decides}
use Rattle.base_files.specs.Bytes.{Bytes}
use Rattle.ckeys_records.specs.contracts.output_name.OutputNamePartialEq.TheImpl as name_eq
use Rattle.ckeys_records.specs.declared.output_name.OutputName.{OutputName}
use Rattle.rustc_parts.specs.contracts.parts.EnvDepPartialEq.TheImpl as dep_eq
use Rattle.rustc_parts.specs.declared.parts.EnvDep.{EnvDep}

both : {P Q : Type 0} (s t : Bool) → Decides s P → Decides t Q → Decides (s && t) (P × Q)
both true t p q = (λ h. (p.0 refl, q.0 h), λ r. q.1 r.1)
both false t p q = (λ h. cc, λ r. p.1 r.0)

pub bytes_are : (a b : Bytes) → Decides (pointwise nat_eq a b) (a ≡ b)
bytes_are a b = slice_eq-Decides unsigned_Decides a b (pointwise nat_eq a b) refl

-- a name and a value
pub pairs_are : (a b : Bytes × Bytes) → Decides (pointwise nat_eq a.0 b.0 && pointwise nat_eq a.1 b.1) (a ≡ b)
pairs_are a b =
    let parts = both (pointwise nat_eq a.0 b.0) (pointwise nat_eq a.1 b.1) (bytes_are a.0 b.0) (bytes_are a.1 b.1) in (
      (λ h. let p = parts.0 h in λ i. (p.0 i, p.1 i)),
      (λ e. parts.1 (ap (λ (x : Bytes × Bytes). x.0) e, ap (λ (x : Bytes × Bytes). x.1) e)),
    )

pub names_are : (a b : OutputName) → Decides (name_eq.ghosts.eq a b) (a ≡ b)
names_are a b =
    let parts = both _ _ (bytes_are a.name b.name) (booleans_Decides a.optional b.optional) in (
      (λ h. let p = parts.0 h in λ i. record { name = p.0 i; optional = p.1 i }),
      (λ e. parts.1 (ap (λ (n : OutputName). n.name) e, ap (λ (n : OutputName). n.optional) e)),
    )

values_are : (x y : Option Bytes) → Decides (option_eq (pointwise nat_eq) x y) (x ≡ y)
values_are None None = (λ h. refl, λ e. refl)
values_are None (Some y) = (λ h. cc, λ e. cc)
values_are (Some x) None = (λ h. cc, λ e. cc)
values_are (Some x) (Some y) = (λ h. ap Some ((bytes_are x y).0 h), λ e. (bytes_are x y).1 (cc))

pub env_deps_are : (a b : EnvDep) → Decides (dep_eq.ghosts.eq a b) (a ≡ b)
env_deps_are a b =
    let parts = both _ _ (bytes_are a.name b.name) (values_are a.value b.value) in (
      (λ h. let p = parts.0 h in λ i. record { name = p.0 i; value = p.1 i }),
      (λ e. parts.1 (ap (λ (d : EnvDep). d.name) e, ap (λ (d : EnvDep). d.value) e)),
    )
