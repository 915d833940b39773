use Rattle.std.proofs.Common.{◌≡◌, ◌++◌, length}
use Rattle.rustc_texts.proofs.NameLaws.{all_names, going_on}
use Rattle.rustc_texts.proofs.dep_info.names_in.Given as goal

-- the names so far, and those of the rest, the first of which has begun
abbrev pub invariant-loop-byte : goal.invariant-loop-byte
invariant-loop-byte l = all_names 0 l.rule ≡ l.names.items ++ going_on l.name.items (all_names 0 l.rest)

abbrev pub decreases-loop-byte : goal.decreases-loop-byte
decreases-loop-byte l = length l.rest
