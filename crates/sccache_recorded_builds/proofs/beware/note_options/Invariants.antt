use Rattle.std.proofs.Common.{◌≡◌, ◌||◌, List, ℕ, length}
use Rattle.std.specs.List.{list_any}
use Rattle.sccache_recorded_builds.specs.Beware.{AreOnce, is_among, is_option}
use Rattle.sccache_recorded_builds.proofs.beware.note_options.Given as goal

-- those that were found, and those of the words that are left
abbrev pub invariant-loop-word : goal.invariant-loop-word
invariant-loop-word l = record {
  once : AreOnce l.found.items;
  held : (option : List ℕ)
      → (is_among option l.found.items || list_any (is_option option) l.rest)
      ≡ (is_among option l.fn.found.items || list_any (is_option option) l.words);
}

abbrev pub decreases-loop-word : goal.decreases-loop-word
decreases-loop-word l = length l.rest
