-- Variables are totally ordered.
use Rattle.std.proofs.Common.{◌≡◌, Option, None, Some, refl, ap}
use Rattle.std.specs.Cmp.{IsTotalOrder}
use Rattle.std.specs.Cmp.Lexicographic.{options_total}
use Rattle.std.specs.Option.{option_cmp}
use Rattle.std.specs.Ordering.{ordering_then}
use Rattle.std.specs.declared.cmp.Ordering.{Ordering}
use Rattle.std.specs.declared.cmp.Ordering.TheVariants.{Less, Equal, Greater}
use Rattle.std.proofs.lemmas.Cmp.{nat_list_cmp_total, on_total, then_total}
use Rattle.std.proofs.lemmas.Map.Lookups.{exact_bytes}
use Rattle.base_files.specs.Bytes.{Bytes}
use Rattle.rustc_parts.specs.Orders.{bytes_cmp, env_dep_cmp, pair_cmp}
use Rattle.rustc_parts.specs.declared.parts.EnvDep.{EnvDep}

pub env_deps_total : IsTotalOrder env_dep_cmp
env_deps_total = then_total (on_total (λ (dep : EnvDep). dep.name) nat_list_cmp_total) (on_total (λ (dep : EnvDep). dep.value) (options_total nat_list_cmp_total))

pub pairs_total : IsTotalOrder pair_cmp
pairs_total = then_total (on_total (λ (pair : Bytes × Bytes). pair.0) nat_list_cmp_total) (on_total (λ (pair : Bytes × Bytes). pair.1) nat_list_cmp_total)

both_tie : (first second : Ordering) → ordering_then first second ≡ Equal → (first ≡ Equal) × (second ≡ Equal)
both_tie Less second h = absurd cc
both_tie Equal second h = (refl, h)
both_tie Greater second h = absurd cc

values_tie : (one other : Option Bytes) → option_cmp bytes_cmp one other ≡ Equal → one ≡ other
values_tie None None h = refl
values_tie None (Some y) h = absurd cc
values_tie (Some x) None h = absurd cc
values_tie (Some x) (Some y) h = let same : x ≡ y = exact_bytes x y h in cc

pub env_deps_tie : (one other : EnvDep) → env_dep_cmp one other ≡ Equal → one ≡ other
env_deps_tie one other h =
    let t = both_tie (bytes_cmp one.name other.name) (option_cmp bytes_cmp one.value other.value) h in
    let names : one.name ≡ other.name = exact_bytes one.name other.name t.0 in
    let values : one.value ≡ other.value = values_tie one.value other.value t.1 in
    λ i. record { name = names i; value = values i }

pub pairs_tie : (one other : Bytes × Bytes) → pair_cmp one other ≡ Equal → one ≡ other
pairs_tie one other h =
    let t = both_tie (bytes_cmp one.0 other.0) (bytes_cmp one.1 other.1) h in
    let names : one.0 ≡ other.0 = exact_bytes one.0 other.0 t.0 in
    let values : one.1 ≡ other.1 = exact_bytes one.1 other.1 t.1 in
    λ i. (names i, values i)
