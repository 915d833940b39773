-- The orders of the variables of a key.
use Rattle.std.specs.Ordering.{nat_cmp, ordering_then}
use Rattle.std.specs.Option.{option_cmp}
use Rattle.std.specs.Cmp.Lexicographic.{slice_cmp}
use Rattle.std.specs.declared.cmp.Ordering.{Ordering}
use Rattle.base_files.specs.Bytes.{Bytes}
use Rattle.rustc_parts.specs.declared.parts.EnvDep.{EnvDep}

-- by their bytes
abbrev pub bytes_cmp : Bytes → Bytes → Ordering
bytes_cmp = slice_cmp nat_cmp

-- by name, one that isn't set before those that are, and by value
abbrev pub env_dep_cmp : EnvDep → EnvDep → Ordering
env_dep_cmp one other = ordering_then (bytes_cmp one.name other.name) (option_cmp bytes_cmp one.value other.value)

-- by name, and by value
abbrev pub pair_cmp : Bytes × Bytes → Bytes × Bytes → Ordering
pair_cmp one other = ordering_then (bytes_cmp one.0 other.0) (bytes_cmp one.1 other.1)
