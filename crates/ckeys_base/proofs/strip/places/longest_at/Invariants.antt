use Rattle.std.proofs.Common.{◌≡◌, ◌≤◌, ◌+◌, max, length, drop}
use Rattle.ckeys_base.specs.FolderPlaces.{longest}
use Rattle.ckeys_base.specs.FromTheLeft.{places_of}
use Rattle.ckeys_base.proofs.strip.places.longest_at.Given as goal

-- the longest of the folders so far, within the text
abbrev pub invariant-loop-folder : goal.invariant-loop-folder
invariant-loop-folder l =
    (max l.best (longest (places_of l.kind) (drop l.folder-index l.folders) l.text l.at) ≡ longest (places_of l.kind) l.folders l.text l.at)
    × (l.at + l.best ≤ length l.text)
