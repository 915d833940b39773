-- How large a result is, and whether it's kept.
use Rattle.std.specs.Prelude.{ℕ, Bool, true, nat_le, List, length, map, sum, Option, Some, None}
use Rattle.wrap_keys.specs.Account.{Pairs}
use Rattle.wrap_base.specs.declared.answer.Output.{Output}

-- the lengths of the outputs that were made, added up
abbrev pub size_of : Pairs → ℕ
size_of pairs = sum (map (λ pair. length pair.1) pairs)

-- those of the outputs of an answer
abbrev pub size_in : List Output → ℕ
size_in outputs = sum (map (λ output. length output.contents) outputs)

-- Whether a result of that size is kept: it's no greater than the limit, where there is one.
abbrev pub is_within : Option ℕ → ℕ → Bool
is_within None size = true
is_within (Some max_kept) size = nat_le size max_kept
