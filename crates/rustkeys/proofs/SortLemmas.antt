-- Results in order.
use Rattle.std.proofs.Common.{◌≡◌, refl, List, [], Option, Some, None, Result, Ok, Err, IfOk}
use Rattle.std.specs.Prelude.{IfSome, IsPermutation, unwrap_or}
use Rattle.std.specs.Cmp.{IsTotalOrder}
use Rattle.std.specs.List.Sorted.{IsSorted}
use Rattle.std.specs.declared.cmp.Ordering.{Ordering}
use Rattle.std.specs.declared.cmp.Ordering.TheVariants.{Equal}
use Rattle.rustc_options.specs.Sorted.{sorted_by}
use Rattle.rustc_options.specs.SortedLaws.{sorted_is}

module _ {X : Type 0} (cmp : X → X → Ordering) (total : IsTotalOrder cmp) (exact : (x y : X) → cmp x y ≡ Equal → x ≡ y) where
  -- a result that has the items and is sorted is the sorted list
  pub in_order_is : {E : Type 0} (xs : List X) (result : Result (List X) E) → IfOk result (λ ys. IsPermutation xs ys) → IfOk result (λ ys. IsSorted cmp ys) → IfOk result (λ ys. ys ≡ sorted_by cmp xs)
  in_order_is xs (Ok ys) same sorted = sorted_is cmp total exact xs ys same sorted
  in_order_is xs (Err e) same sorted = tt

  -- the same of items that are found
  pub found_in_order : (ys : List X) (found : Option (List X)) → (found ≡ None → ⊥) → IfSome found (λ zs. IsPermutation zs ys) → IsSorted cmp ys → ys ≡ sorted_by cmp (unwrap_or found [])
  found_in_order ys None there same sorted = absurd (there refl)
  found_in_order ys (Some zs) there same sorted = sorted_is cmp total exact zs ys same sorted
