-- How often each name was counted.
use Rattle.std.specs.Prelude.{ℕ, ◌+◌, ◌-◌, ◌^◌, min, List, if◌then◌else◌}
use Rattle.std.specs.BTreeMap.{get_by_text}
use Rattle.std.specs.Option.{option_map_or}
use Rattle.std.specs.Str.{bytes_eq}
use Rattle.cache_statistics.specs.declared.counts.Counts.{Counts}

-- The number of a name; 0 where it wasn't counted.
abbrev pub number_in : Counts → List ℕ → ℕ
number_in counts name = option_map_or (λ number. number) (get_by_text counts.numbers name) 0

-- As many as before, and under this name so many more, up to what 64 bits hold.
abbrev pub with_more : (List ℕ → ℕ) → List ℕ → ℕ → List ℕ → ℕ
with_more before name number other =
    if bytes_eq other name then min (before other + number) (2 ^ 64 - 1) else before other
