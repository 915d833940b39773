use Rattle.std.proofs.Common.{◌≡◌, map}
use Rattle.rustc_options.proofs.sets.between_commas.Given as goal

-- a word for each piece so far
abbrev pub invariant-loop-piece : goal.invariant-loop-piece
invariant-loop-piece l = l.words.items ≡ map (λ piece. piece.now) l.yielded
