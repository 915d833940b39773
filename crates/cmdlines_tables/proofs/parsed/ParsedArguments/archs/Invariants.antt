use Rattle.std.proofs.Common.{◌≡◌, length, map, ◌++◌, List, ℕ, Bor}
use Rattle.std.specs.BTreeSet.{contains}
use Rattle.std.specs.Cmp.Lexicographic.{slice_cmp}
use Rattle.std.specs.Ordering.{nat_cmp}
use Rattle.cmdlines_tables.specs.Small.{archs_of}
use Rattle.cmdlines_tables.proofs.ArchLemmas.{is_among, left_of}
use Rattle.cmdlines_tables.proofs.parsed.ParsedArguments.archs.Given as goal

-- the set holds what was found, and the architectures of the words that are left follow it
abbrev pub invariant-loop-word : goal.invariant-loop-word
invariant-loop-word l =
    let found = map (λ (arch : Bor (List ℕ)). arch.now) l.archs.items in
    record {
      seen : (q : Bor (List ℕ)) → contains (λ x y. slice_cmp nat_cmp x.now y.now) l.seen q ≡ is_among found q.now;
      left : found ++ left_of found l.rest ≡ archs_of l.fn.self.arch_args;
    }

abbrev pub decreases-loop-word : goal.decreases-loop-word
decreases-loop-word l = length l.rest
