-- How large files are together, and which of two was used later.
use Rattle.std.specs.Prelude.{ℕ, ◌-◌, ◌^◌, min, Bool, List}
use Rattle.std.specs.List.{sum_by}
use Rattle.std.specs.Ordering.{is_lt, nat_cmp}
use Rattle.cache_dir.specs.declared.listing.KeptFile.{KeptFile}

-- their sizes in bytes, added up
abbrev pub bytes_together : List KeptFile → ℕ
bytes_together files = sum_by (λ f. f.size) files

-- a sum, or the largest number of eight bytes where that is less
abbrev pub saturated : ℕ → ℕ
saturated total = min total (2 ^ 64 - 1)

-- one was used later than the other
abbrev pub used_later : KeptFile → KeptFile → Bool
used_later one other = is_lt (nat_cmp other.used one.used)
