use Rattle.std.proofs.Common.{◌≡◌, ◌≤◌, ◌<◌, ◌-◌, ℕ, length}
use Rattle.ckeys_base.specs.FolderPlaces.{longest}
use Rattle.ckeys_base.specs.FromTheLeft.{places_of}
use Rattle.ckeys_base.proofs.strip.slices.next_slash.Given as goal

-- no folder counts at the places so far
abbrev pub invariant-loop-slash : goal.invariant-loop-slash
invariant-loop-slash l = record {
  low : l.from ≤ l.rest;
  high : l.rest ≤ length l.text;
  none : (k : ℕ) → l.from ≤ k → k < l.rest → longest (places_of l.kind) l.folders l.text k ≡ 0;
}

abbrev pub decreases-loop-slash : goal.decreases-loop-slash
decreases-loop-slash l = length l.text - l.rest
