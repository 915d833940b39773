use Rattle.std.proofs.Common.{◌≡◌, ℕ, Bool, true, false, nat_lt, get_or, refl, arith}
use Rattle.std.proofs.Math.ListN.{replicate, get_or-eq_default}
use Rattle.std.proofs.lemmas.List.{get_or-replicate, length-replicate}
use borrow.Author.Tests.{ltb-true, ltb-false}
use Rattle.cmdlines_base.proofs.fork.Fork.none.Goals as goal

zeros : (n b : ℕ) → get_or {A = ℕ} (replicate {A = ℕ} n 0) b 0 ≡ 0
zeros n b = by (nat_lt b n) refl
  where
    by : (s : Bool) → nat_lt b n ≡ s → get_or {A = ℕ} (replicate {A = ℕ} n 0) b 0 ≡ 0
    by true q = get_or-replicate n b 0 0 (ltb-true b n q)
    by false q = get_or-eq_default (replicate {A = ℕ} n 0) 0 (omega (arith, length-replicate {A = ℕ} n 0, ltb-false b n q))

pub returns-clause-begins : goal.returns-clause-begins
returns-clause-begins c = zeros 256

pub returns-clause-ends : goal.returns-clause-ends
returns-clause-ends c = zeros 256
