use Rattle.std.proofs.Common.{◌≡◌, ◌++◌, filter}
use Rattle.std.specs.Vec.Iter.{into_iter_items}
use Rattle.rustc_texts.specs.Outputs.{is_of_crate}
use Rattle.rustc_texts.proofs.output_names.of_crates.Given as goal

-- those that are kept so far, and those of the names that are left
abbrev pub invariant-loop-name : goal.invariant-loop-name
invariant-loop-name l = l.kept.items ++ filter is_of_crate (into_iter_items l.name-iterator) ≡ filter is_of_crate l.fn.names.items
