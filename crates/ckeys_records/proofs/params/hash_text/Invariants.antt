use Rattle.ckeys_base.specs.Feeding.{joined}
use Rattle.ckeys_base.specs.FolderPlaces.{text_places}
use Rattle.ckeys_base.specs.FromTheLeft.{stripped_of}
use Rattle.ckeys_base.specs.KeptParts.{slices_left}
use Rattle.ckeys_records.specs.Params.{IsFed}
use Rattle.ckeys_records.proofs.params.hash_text.Given as goal

-- whoever is fed the slices that are left was fed all of them
abbrev pub invariant-loop-slice : goal.invariant-loop-slice
invariant-loop-slice g l = (new : _) → IsFed g.H.HashState.holds l.digest (joined (slices_left l.slice-iterator)) new → IsFed g.H.HashState.holds l.fn.digest (stripped_of text_places l.fn.basedirs l.fn.text) new
