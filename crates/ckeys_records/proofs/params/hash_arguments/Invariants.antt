use Rattle.std.proofs.Common.{length}
use Rattle.ckeys_records.specs.Material.{words_bytes}
use Rattle.ckeys_records.specs.Params.{stripped_words, IsFed}
use Rattle.ckeys_records.proofs.params.hash_arguments.Given as goal

-- whoever is fed the words that are left was fed all of them
abbrev pub invariant-loop-word : goal.invariant-loop-word
invariant-loop-word g l = (new : _) → IsFed g.H.HashState.holds l.digest (words_bytes (stripped_words l.fn.basedirs l.rest)) new → IsFed g.H.HashState.holds l.fn.digest (words_bytes (stripped_words l.fn.basedirs l.fn.arguments)) new

abbrev pub decreases-loop-word : goal.decreases-loop-word
decreases-loop-word g l = length l.rest
