-- What is seen of a file during one look-up.
use Rattle.std.specs.Prelude.{◌≡◌, ◌==◌, ◌&&◌, Bool, false, ℤ, length, Option, None, Some}
use Rattle.std.specs.HashMap.{get_by}
use Rattle.std.specs.Option.{option_map}
use Rattle.std.specs.Str.{bytes_eq}
use Rattle.base_files.specs.Bytes.{Bytes}
use Rattle.base_files.specs.Tree.{contents_at}
use Rattle.ckeys_base.specs.Hex.{hex_of}
use Rattle.ckeys_include_records.specs.Surroundings.{Place, is_the, path_at, second_at}
use Rattle.ckeys_include_records.specs.declared.entry.IncludeEntry.{IncludeEntry}
use Rattle.ckeys_include_records.specs.declared.sighting.Seen.{Seen}
use Rattle.ckeys_include_records.specs.declared.sighting.Sightings.{Sightings}

module _ (digest_of : Bytes → Bytes) (place : Place) where
  -- a file's size, the text of its digest, and the second of its last change
  abbrev pub seen_with : Bytes → Bytes → Seen
  seen_with name contents = record { size = length contents; digest = hex_of (digest_of contents); second = second_at place.files (path_at place name) }

  -- what is seen of the regular file of that name
  abbrev pub seen_at : Bytes → Option Seen
  seen_at name = option_map (seen_with name) (contents_at place.files (path_at place name))

-- the file is as it was recorded
abbrev pub fits_seen : Option ℤ → IncludeEntry → Option Seen → Bool
fits_seen day i None = false
fits_seen day i (Some seen) = (seen.size == i.size) && (bytes_eq seen.digest i.digest && (is_the i.day day && is_the i.second (Some seen.second)))

-- what was seen of files is what they are
abbrev pub AreTrue : (Bytes → Bytes) → Place → Sightings → Type 0
AreTrue digest_of place sightings = (name : Bytes) (found : Option Seen) → get_by (bytes_eq name) sightings.by_name ≡ Some found → found ≡ seen_at digest_of place name
