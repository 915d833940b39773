use Rattle.std.proofs.Common.{◌≡◌, ◌++◌, List}
use Rattle.std.specs.List.{flat_map}
use Rattle.std.specs.Vec.Iter.{into_iter_items}
use Rattle.base_files.specs.Bytes.{Bytes}
use Rattle.rustc_texts.proofs.words.push_lists.Given as goal

-- the words so far, and those of the lists that are left
abbrev pub invariant-loop-list : goal.invariant-loop-list
invariant-loop-list l = l.words ++ flat_map (λ (list : List Bytes). list) (into_iter_items l.list-iterator) ≡ l.fn.words ++ flat_map (λ (list : List Bytes). list) l.fn.lists.items
