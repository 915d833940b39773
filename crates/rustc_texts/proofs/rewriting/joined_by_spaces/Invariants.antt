use Rattle.std.proofs.Common.{◌≡◌, ◌++◌, drop}
use Rattle.std.specs.List.{join_with_byte}
use Rattle.rustc_texts.proofs.JoinedPieces.{after_spaces}
use Rattle.rustc_texts.proofs.rewriting.joined_by_spaces.Given as goal

-- what is written so far, and the pieces that are still to come, each after a space
abbrev pub invariant-loop-piece : goal.invariant-loop-piece
invariant-loop-piece l = l.joined.items ++ after_spaces (drop l.piece-index l.later) ≡ join_with_byte 32 l.pieces
