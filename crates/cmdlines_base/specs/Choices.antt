-- What options say, one by one and together.
use Rattle.std.specs.Prelude.{Bool, Option, None, Some, if◌then◌else◌}

abbrev pub when : {X : Type 0} → Bool → X → Option X
when holds x = if holds then Some x else None

-- the last that there is, and the first
abbrev pub later : {X : Type 0} → Option X → Option X → Option X
later earlier None = earlier
later earlier (Some x) = Some x

abbrev pub sooner : {X : Type 0} → Option X → Option X → Option X
sooner None next = next
sooner (Some x) next = Some x
