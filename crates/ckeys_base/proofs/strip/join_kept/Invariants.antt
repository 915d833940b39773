use Rattle.std.proofs.Common.{◌≡◌, ◌++◌}
use Rattle.std.specs.List.{flat_map}
use Rattle.ckeys_base.specs.KeptParts.{slices_left}
use Rattle.ckeys_base.specs.FromTheLeft.{places_of, stripped_of}
use Rattle.ckeys_base.proofs.strip.join_kept.Given as goal

-- the slices so far, and those that are still to come
abbrev pub invariant-loop-slice : goal.invariant-loop-slice
invariant-loop-slice l = l.kept.items ++ flat_map (λ slice. slice) (slices_left l.slice-iterator) ≡ stripped_of (places_of l.fn.kind) l.fn.folders l.fn.text
