use Rattle.std.proofs.Common.{length, map, string_bytes}
use Rattle.ckeys_records.specs.Material.{joined}
use Rattle.ckeys_records.specs.Params.{IsFed}
use Rattle.ckeys_records.proofs.params.hash_texts.Given as goal

-- whoever is fed the texts that are left was fed all of them
abbrev pub invariant-loop-text : goal.invariant-loop-text
invariant-loop-text g l = (new : _) → IsFed g.H.HashState.holds l.digest (joined (map string_bytes l.rest)) new → IsFed g.H.HashState.holds l.fn.digest (joined (map string_bytes l.fn.texts)) new

abbrev pub decreases-loop-text : goal.decreases-loop-text
decreases-loop-text g l = length l.rest
