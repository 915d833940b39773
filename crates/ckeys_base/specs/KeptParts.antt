-- The slices that an iterator still gives.
use Rattle.std.specs.Prelude.{ℕ, List, [], Option, None, Some}
use Rattle.base_files.specs.Bytes.{Bytes}
use Rattle.ckeys_base.specs.declared.strip.slices.KeptSlices.{KeptSlices}
use Rattle.ckeys_base.specs.FolderPlaces.{longest}
use Rattle.ckeys_base.specs.FromTheLeft.{places_of, kept_parts}
use Rattle.ckeys_base.specs.Stripping.{filled}

abbrev pub parts_from : (ℕ → ℕ) → Bytes → Option ℕ → List Bytes
parts_from width text None = []
parts_from width text (Some i) = kept_parts width text i

-- the parts from where the next one begins, without the empty ones
abbrev pub slices_left : KeptSlices → List Bytes
slices_left s = filled (parts_from (longest (places_of s.kind) s.folders.now s.text.now) s.text.now s.next)
