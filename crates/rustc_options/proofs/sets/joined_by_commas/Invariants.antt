use Rattle.std.proofs.Common.{◌≡◌, ◌++◌, length}
use Rattle.rustc_options.specs.Sets.{joined_by_commas}
use Rattle.rustc_options.proofs.sets.joined_by_commas.Given as goal

-- the text so far, and the words that are left
abbrev pub invariant-loop-word : goal.invariant-loop-word
invariant-loop-word l = l.text.items ++ joined_by_commas l.rest ≡ joined_by_commas l.words

abbrev pub decreases-loop-word : goal.decreases-loop-word
decreases-loop-word l = length l.rest
