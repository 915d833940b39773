use Rattle.std.proofs.Common.{◌≡◌, ◌++◌, length}
use Rattle.rustc_texts.specs.Outputs.{metadata_name}
use Rattle.rustc_texts.proofs.metadata.metadata_name.Given as goal

-- what is written so far, and the name of the rest
abbrev pub invariant-loop-byte : goal.invariant-loop-byte
invariant-loop-byte l = l.name.items ++ metadata_name l.rest ≡ metadata_name l.library

abbrev pub decreases-loop-byte : goal.decreases-loop-byte
decreases-loop-byte l = length l.rest
