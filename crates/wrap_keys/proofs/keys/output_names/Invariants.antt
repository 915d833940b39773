use Rattle.std.proofs.Common.{◌≡◌, take}
use Rattle.ckeys_records.specs.Meaning.{names_of}
use Rattle.wrap_keys.proofs.keys.output_names.Given as goal

abbrev pub invariant-loop-name : goal.invariant-loop-name
invariant-loop-name l = l.names.items ≡ names_of (take l.name-index l.outputs)
