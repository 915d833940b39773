-- Where the flags of a table part: by their first byte, and after it by the second one.
use Rattle.std.specs.Prelude.{ℕ, ◌≤◌, ◌<◌, List, [], ◌∷◌, length, take, All, nat_le, if◌then◌else◌, slice_index_or, slice_range}
use Rattle.cmdlines_base.specs.Nodes.{GoesOn, IsPicked}
use Rattle.cmdlines_base.specs.Table.{Entry}
use Rattle.cmdlines_base.specs.declared.fork.Fork.{Fork}
use Rattle.cmdlines_base.specs.declared.branch.Stem.{Stem}

-- a node's entries without the one whose flag ends there
abbrev pub going_on : {K : Type 0} → ℕ → List (Entry K) → List (Entry K)
going_on depth [] = []
going_on depth (e ∷ es) = if nat_le (length e.flag) depth then es else e ∷ es

-- Of these entries, those with that byte after the first one lie from one place up to another.
pub record StandAt {K : Type 0} (entries : List (Entry K)) (byte begin end : ℕ) : Type 0 where
  pub ordered : begin ≤ end
  pub within : end ≤ length entries
  pub picked : IsPicked 1 byte entries (slice_range entries begin end)

abbrev pub IsForkOf : {K : Type 0} → Fork → List (Entry K) → Type 0
IsForkOf fork entries = (byte : ℕ) → byte < 256
    → StandAt entries byte (slice_index_or fork.begins byte 0) (slice_index_or fork.ends byte 0)

-- No flag is empty, the entries that begin with the byte come first, and the fork is that of those that go on.
pub record IsStemOf {K : Type 0} (stem : Stem) (entries : List (Entry K)) : Type 0 where
  pub some : 0 < stem.count
  pub within : stem.count ≤ length entries
  pub on : All (GoesOn 0) entries
  pub front : IsPicked 0 stem.byte entries (take stem.count entries)
  pub parts : IsForkOf stem.fork (going_on 1 (take stem.count entries))
