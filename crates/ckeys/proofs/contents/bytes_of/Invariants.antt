use Rattle.std.proofs.Common.{◌≡◌, ◌++◌, map, string_bytes}
use Rattle.std.specs.Vec.Iter.{into_iter_items}
use Rattle.ckeys.proofs.contents.bytes_of.Given as goal

-- the texts so far as bytes, and those that are left
abbrev pub invariant-loop-text : goal.invariant-loop-text
invariant-loop-text l = l.bytes.items ++ map string_bytes (into_iter_items l.text-iterator) ≡ map string_bytes l.fn.texts
