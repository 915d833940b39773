-- A word cut in two at its first `=`, which is 61.
use Rattle.std.specs.Prelude.{◌==◌, [], ◌∷◌, ◌++◌, Option, None, Some, if◌then◌else◌}
use Rattle.base_files.specs.Bytes.{Bytes}

-- what comes before it, or all where there is none
abbrev pub before_equals : Bytes → Bytes
before_equals [] = []
before_equals (b ∷ bs) = if b == 61 then [] else b ∷ before_equals bs

-- what comes after it
abbrev pub after_equals : Bytes → Option Bytes
after_equals [] = None
after_equals (b ∷ bs) = if b == 61 then Some bs else after_equals bs

abbrev pub with_equals : Bytes → Bytes → Bytes
with_equals front back = front ++ 61 ∷ back

-- both again
abbrev pub maybe_with_equals : Bytes → Option Bytes → Bytes
maybe_with_equals front None = front
maybe_with_equals front (Some back) = with_equals front back
