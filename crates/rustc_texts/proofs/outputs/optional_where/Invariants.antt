use Rattle.std.proofs.Common.{◌≡◌, ◌++◌, map}
use Rattle.std.specs.Vec.Iter.{into_iter_items}
use Rattle.rustc_texts.specs.Outputs.{optional_if}
use Rattle.rustc_texts.proofs.outputs.optional_where.Given as goal

-- those so far, and those of the outputs that are left
abbrev pub invariant-loop-own : goal.invariant-loop-own
invariant-loop-own l = l.made.items ++ map (optional_if l.name) (into_iter_items l.own-iterator) ≡ map (optional_if l.name) l.fn.outputs.items
