use Rattle.std.proofs.Common.{◌≡◌, ◌++◌, take}
use Rattle.ckeys_records.specs.Params.{stripped_words}
use Rattle.wrap_fingerprints.proofs.pieces.with_stripped.Given as goal

-- the words so far come after the others
abbrev pub invariant-loop-word : goal.invariant-loop-word
invariant-loop-word l = l.all.items ≡ l.fn.kept.items ++ stripped_words l.folders (take l.word-index l.words)
