use Rattle.std.proofs.Common.{◌≡◌, get_or}
use Rattle.cmdlines_base.proofs.ForkLemmas.{Noted, second}
use Rattle.cmdlines_base.proofs.fork.Fork.of.Given as goal

-- the entries so far are noted
abbrev pub invariant-loop-entry : goal.invariant-loop-entry
invariant-loop-entry g l = (l.place ≡ l.entry-index) × Noted second l.entries l.entry-index (λ b. get_or l.fork.begins b 0) (λ b. get_or l.fork.ends b 0)
