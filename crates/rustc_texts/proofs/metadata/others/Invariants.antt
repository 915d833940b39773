use Rattle.std.proofs.Common.{◌≡◌, ◌++◌, List, filter}
use Rattle.std.specs.Vec.Iter.{into_iter_items}
use Rattle.base_files.specs.Bytes.{Bytes}
use Rattle.rustc_texts.specs.Places.{TellsLast, is_none_of}
use Rattle.rustc_texts.proofs.metadata.others.Given as goal

-- those that are kept so far, and those of the names that are left
abbrev pub invariant-loop-name : goal.invariant-loop-name
invariant-loop-name l = (listed : List Bytes) → TellsLast l.last listed → l.kept.items ++ filter (is_none_of listed) (into_iter_items l.name-iterator) ≡ filter (is_none_of listed) l.fn.names.items
