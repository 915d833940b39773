use Rattle.std.proofs.Common.{◌≡◌, length}
use Rattle.ckeys_base.specs.KeptParts.{parts_from, slices_left}
use Rattle.ckeys_base.specs.FolderPlaces.{longest}
use Rattle.ckeys_base.specs.FromTheLeft.{places_of}
use Rattle.ckeys_base.proofs.strip.slices.KeptSlicesIterator.next.Given as goal

-- the slices so far were empty
abbrev pub invariant-loop-self : goal.invariant-loop-self
invariant-loop-self l = slices_left l.self ≡ slices_left l.fn.self

abbrev pub decreases-loop-self : goal.decreases-loop-self
decreases-loop-self l = length (parts_from (longest (places_of l.self.kind) l.self.folders.now l.self.text.now) l.self.text.now l.self.next)
