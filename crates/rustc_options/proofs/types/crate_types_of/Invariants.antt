use Rattle.std.proofs.Common.{◌≡◌, ◌++◌, ◌||◌, filter, length}
use Rattle.std.specs.List.{list_any}
use Rattle.std.specs.Vec.Iter.{into_iter_items, into_iter_len}
use Rattle.rustc_options.specs.Data.{is_rlib, is_staticlib, is_other_type}
use Rattle.rustc_options.specs.Sets.{between_commas}
use Rattle.rustc_options.proofs.types.crate_types_of.Given as goal

-- what was found, and what is found in the names that are left
abbrev pub invariant-loop-name : goal.invariant-loop-name
invariant-loop-name l = record {
  rlib : (l.rlib || list_any is_rlib (into_iter_items l.name-iterator)) ≡ list_any is_rlib (between_commas l.word);
  staticlib : (l.staticlib || list_any is_staticlib (into_iter_items l.name-iterator)) ≡ list_any is_staticlib (between_commas l.word);
  others : l.others.items ++ filter is_other_type (into_iter_items l.name-iterator) ≡ filter is_other_type (between_commas l.word);
  count : into_iter_len l.name-iterator ≡ length (into_iter_items l.name-iterator);
}
