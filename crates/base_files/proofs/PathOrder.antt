-- Paths in order.
use Rattle.std.proofs.Common.{◌≡◌, List, [], ◌∷◌, Option, None, Some, refl, ap, map, subst, ◌∙◌}
use Rattle.std.specs.Cmp.{IsTotalOrder}
use Rattle.std.specs.Cmp.Lexicographic.{slice_cmp}
use Rattle.std.specs.Iterator.{AlwaysYields}
use Rattle.std.specs.Option.{option_map, option_to_list, unwrap_or}
use Rattle.std.specs.Ordering.{MatchOrdering, nat_cmp, ordering_then}
use Rattle.std.specs.declared.cmp.Ordering.{Ordering}
use Rattle.std.specs.declared.cmp.Ordering.TheVariants.{Less, Equal, Greater}
use Rattle.std.proofs.lemmas.Cmp.{nat_cmp_total, nat_list_cmp_total, lists_total, on_total, then_total}
use Rattle.std.proofs.lemmas.Iterator.{YieldsList}
use Rattle.std.proofs.lemmas.Map.Lookups.{exact_bytes}
use Rattle.base_files.specs.Bytes.{Bytes}
use Rattle.base_files.specs.Path.{Part, components, name_in, part_cmp, part_of, path_cmp, rank}
use Rattle.base_files.specs.contracts.path.ComponentOrd.TheImpl.{ghosts}
use Rattle.base_files.specs.declared.path.Component.{Component}
use Rattle.base_files.specs.declared.path.Component.TheVariants.{RootDir, CurDir, ParentDir, Normal}

parts_total : IsTotalOrder part_cmp
parts_total = then_total (on_total rank nat_cmp_total) (on_total (λ p. unwrap_or (name_in p) []) nat_list_cmp_total)

-- components compare as their parts do
pub part_order : (x y : Component) → ghosts.cmp x y ≡ part_cmp (part_of x) (part_of y)
part_order RootDir RootDir = refl
part_order RootDir CurDir = refl
part_order RootDir ParentDir = refl
part_order RootDir (Normal n) = refl
part_order CurDir RootDir = refl
part_order CurDir CurDir = refl
part_order CurDir ParentDir = refl
part_order CurDir (Normal n) = refl
part_order ParentDir RootDir = refl
part_order ParentDir CurDir = refl
part_order ParentDir ParentDir = refl
part_order ParentDir (Normal n) = refl
part_order (Normal m) RootDir = refl
part_order (Normal m) CurDir = refl
part_order (Normal m) ParentDir = refl
part_order (Normal m) (Normal n) = refl

-- it is a total order
pub paths_total : IsTotalOrder path_cmp
paths_total = then_total (on_total components (lists_total parts_total)) nat_list_cmp_total

-- only equal paths tie
pub paths_tie : (left right : Bytes) → path_cmp left right ≡ Equal → left ≡ right
paths_tie left right h = by (slice_cmp part_cmp (components left) (components right)) h
  where
    by : (order : Ordering) → ordering_then order (slice_cmp nat_cmp left right) ≡ Equal → left ≡ right
    by Less h = cc
    by Equal h = exact_bytes left right h
    by Greater h = cc

module _ {S A B : Type 0} (steps : S → Option A → S → Type 0) (w : A → B) where
  viewed : (xs : List A) (s : S) → AlwaysYields steps (λ x. x) s xs → AlwaysYields steps w s (map w xs)
  viewed [] s h = h
  viewed (x ∷ xs) s h = (h.0, λ y j p. let one = h.1 y j p in (ap w one.0, viewed xs j one.1))

-- what an iterator yields, seen otherwise
pub YieldsList-viewed : {S A B : Type 0} {steps : S → Option A → S → Type 0} (w : A → B) {s : S} {xs : List A} → YieldsList steps (λ x. x) s xs → YieldsList steps w s (map w xs)
YieldsList-viewed {steps = steps} w {s} {xs} h = record { runs = viewed steps w xs s h.runs }

-- the start of a path, as it is yielded
pub start_yielded : {S : Type 0} {steps : S → Option Component → S → Type 0} {s : S} {parts : List Part} (start : Option Component) → option_to_list (option_map part_of start) ≡ parts → YieldsList steps part_of s (map part_of (option_to_list start)) → YieldsList steps part_of s parts
start_yielded {S} {steps} {s} {parts} start e h = subst (YieldsList steps part_of s) (same start ∙ e) h
  where
    same : (o : Option Component) → map part_of (option_to_list o) ≡ option_to_list (option_map part_of o)
    same None = refl
    same (Some x) = refl

-- the first order, and where it ties the second one
pub then_order : {P : Type 0} (first parts result bytes : Ordering) → first ≡ parts → MatchOrdering first (result ≡ Less) P (result ≡ Greater) → (P → result ≡ bytes) → result ≡ ordering_then parts bytes
then_order {P} first parts result bytes e h ties = by parts (subst (λ o. MatchOrdering o (result ≡ Less) P (result ≡ Greater)) e h)
  where
    by : (o : Ordering) → MatchOrdering o (result ≡ Less) P (result ≡ Greater) → result ≡ ordering_then o bytes
    by Less m = m
    by Equal m = ties m
    by Greater m = m
