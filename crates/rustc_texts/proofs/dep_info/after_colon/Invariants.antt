use Rattle.std.proofs.Common.{◌≡◌, length}
use Rattle.rustc_texts.specs.DepInfo.{after_colon}
use Rattle.rustc_texts.proofs.dep_info.after_colon.Given as goal

-- what is found in the rest is what is found in all
abbrev pub invariant-loop-after : goal.invariant-loop-after
invariant-loop-after l = after_colon l.line ≡ after_colon l.rest

abbrev pub decreases-loop-after : goal.decreases-loop-after
decreases-loop-after l = length l.rest
