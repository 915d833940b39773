use Rattle.std.proofs.Common.{◌≡◌, length, map, string_bytes, take}
use Rattle.ckeys_records.proofs.params.lengths.Given as goal

abbrev pub invariant-loop-text : goal.invariant-loop-text
invariant-loop-text l = l.lengths ≡ map length (map string_bytes (take l.text-index l.texts))
