use Rattle.std.proofs.Common.{◌≡◌, ◌++◌, [], ◌∷◌, List, ℕ, drop, if◌then◌else◌}
use Rattle.sccache_recorded_builds.specs.Beware.{AreOnce, is_among}
use Rattle.sccache_recorded_builds.specs.Tallies.{numbers_in}
use Rattle.sccache_recorded_builds.proofs.tally.Tally.note_each.Given as goal

-- those that were noted, and those that are left
abbrev pub invariant-loop-name : goal.invariant-loop-name
invariant-loop-name l = record {
  once : AreOnce (drop l.name-index l.names);
  noted : (other : List ℕ)
      → numbers_in l.self other
      ++ (if is_among other (drop l.name-index l.names) then l.number ∷ [] else [])
      ≡ numbers_in l.fn.self other ++ (if is_among other l.names then l.number ∷ [] else []);
}
