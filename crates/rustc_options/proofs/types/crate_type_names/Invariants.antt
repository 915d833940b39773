use Rattle.std.proofs.Common.{◌≡◌, take}
use Rattle.rustc_options.proofs.types.crate_type_names.Given as goal

abbrev pub invariant-loop-name : goal.invariant-loop-name
invariant-loop-name l = l.names.items ≡ take l.name-index l.types.others
