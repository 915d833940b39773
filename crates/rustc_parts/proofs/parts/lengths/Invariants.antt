use Rattle.std.proofs.Common.{◌≡◌, length, map, take}
use Rattle.rustc_parts.proofs.parts.lengths.Given as goal

abbrev pub invariant-loop-word : goal.invariant-loop-word
invariant-loop-word l = l.lengths.items ≡ map length (take l.word-index l.words)
