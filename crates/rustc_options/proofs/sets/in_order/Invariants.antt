use Rattle.std.proofs.Common.{◌≡◌, ◌++◌, length}
use Rattle.std.specs.BTreeSet.{insert_key}
use Rattle.std.specs.Cmp.Lexicographic.{slice_cmp}
use Rattle.std.specs.List.{fold}
use Rattle.std.specs.Ordering.{nat_cmp}
use Rattle.std.specs.Vec.Iter.{into_iter_items, into_iter_len}
use Rattle.rustc_options.specs.Sets.{in_order}
use Rattle.rustc_options.proofs.sets.in_order.Given as goal

-- what is left, put into the set, makes the set of all
abbrev pub invariant-loop-word : goal.invariant-loop-word
invariant-loop-word l = record {
  all : fold (insert_key (slice_cmp nat_cmp)) l.set.keys (into_iter_items l.word-iterator) ≡ in_order l.fn.words;
  count : into_iter_len l.word-iterator ≡ length (into_iter_items l.word-iterator);
}

-- the list so far, and what is left of the set
abbrev pub invariant-loop-word-2 : goal.invariant-loop-word-2
invariant-loop-word-2 l = l.list.items ++ l.word-iterator ≡ in_order l.fn.words
