-- A list in order, by a total order under which only equal items tie.
use Rattle.std.specs.Prelude.{List, [], ◌∷◌, if◌then◌else◌}
use Rattle.std.specs.Ordering.{is_lt}
use Rattle.std.specs.declared.cmp.Ordering.{Ordering}

-- an item among items in order: after those that are less
abbrev pub placed_by : {X : Type 0} → (X → X → Ordering) → X → List X → List X
placed_by cmp x [] = x ∷ []
placed_by cmp x (y ∷ ys) = if is_lt (cmp y x) then y ∷ placed_by cmp x ys else x ∷ y ∷ ys

-- the items in order
abbrev pub sorted_by : {X : Type 0} → (X → X → Ordering) → List X → List X
sorted_by cmp [] = []
sorted_by cmp (x ∷ xs) = placed_by cmp x (sorted_by cmp xs)
