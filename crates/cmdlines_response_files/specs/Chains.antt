-- The names of the files that are open.
use Rattle.std.specs.Prelude.{Bool}
use Rattle.std.specs.HashSet.{contains}
use Rattle.std.specs.Str.{bytes_eq}
use Rattle.base_files.specs.Bytes.{Bytes}
use Rattle.cmdlines_response_files.specs.declared.chain.Chain.{Chain}

abbrev pub is_open : Chain → Bytes → Bool
is_open chain name = contains bytes_eq chain.open name
