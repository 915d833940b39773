use Rattle.std.specs.Ordering.{is_lt}
use Rattle.std.specs.List.Sorted.{IsSortedWithin}
use Rattle.rustc_parts.specs.Orders.{env_dep_cmp}
use Rattle.rustc_parts.proofs.order.env_deps_are_sorted.Given as goal

-- none of those so far is less than the one before it
abbrev pub invariant-loop-i : goal.invariant-loop-i
invariant-loop-i l = IsSortedWithin (λ x y. is_lt (env_dep_cmp x y)) l.deps 0 l.i
