use Rattle.std.proofs.Common.{◌≡◌, drop}
use Rattle.std.specs.Vec.Iter.{into_iter_items}
use Rattle.ckeys_records.specs.Meaning.{names_of}
use Rattle.wrap_keys.specs.Account.{collected}
use Rattle.wrap.specs.Gathering.{and_then}
use Rattle.wrap.proofs.outputs.collected.Given as goal

-- what was gathered so far, and then what is left
abbrev pub invariant-loop-name : goal.invariant-loop-name
invariant-loop-name l = and_then l.pairs.items (collected (names_of (drop l.name-index l.outputs)) (into_iter_items l.rest)) ≡ collected (names_of l.outputs) l.fn.files
