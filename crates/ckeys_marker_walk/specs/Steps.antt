-- What a walk computes, name by name; a lemma ties it to the named files of a text.
use Rattle.std.specs.Prelude.{Bool, ◌||◌, List, [], ◌∷◌, ◌++◌, Option, None, Some, if◌then◌else◌}
use Rattle.std.specs.Option.{option_map}
use Rattle.std.specs.Str.{bytes_eq}
use Rattle.base_files.specs.Bytes.{Bytes}
use Rattle.base_files.specs.Tree.{Tree}
use Rattle.ckeys_marker_walk.specs.Named.{is_named, tells_time}
use Rattle.ckeys_marker_walk.specs.Scanning.{Sight, named, refused}
use Rattle.ckeys_marker_walk.specs.Seen.{has_come, slice_of}
use Rattle.ckeys_marker_walk.specs.Spelling.{meant}
use Rattle.ckeys_marker_walk.specs.declared.walk.Seen.{Seen}
use Rattle.ckeys_marker_walk.specs.declared.walk.Standing.{Standing}
use Rattle.ckeys_marker_walk.specs.declared.walk.Standing.TheVariants.{Counts, Refuses, Skipped}

-- what becomes of a name
abbrev pub standing_on : Bytes → Tree → Bytes → Bytes → Standing
standing_on dir files input name =
    if is_named dir files input name then (if tells_time dir files name then Refuses else Counts)
    else Skipped

-- the names that follow, after a name that came for the first time
abbrev pub by_standing : Standing → Bytes → Option (List Bytes) → Option (List Bytes)
by_standing Counts name rest = option_map (λ names. name ∷ names) rest
by_standing Skipped name rest = rest
by_standing Refuses name rest = None

-- this name has come too
abbrev pub or_this : Bytes → (Bytes → Bool) → Bytes → Bool
or_this raw came other = bytes_eq raw other || came other

-- the names that follow, where these came before, as written between quotes
abbrev pub names_after :
    Bytes → Tree → Bytes → (Bytes → Bool) → List Sight → Option (List Bytes)
names_after dir files input came [] = Some []
names_after dir files input came (refused ∷ told) = None
names_after dir files input came (named raw ∷ told) =
    if came raw then names_after dir files input came told
    else by_standing (standing_on dir files input (meant raw)) (meant raw)
    (names_after dir files input (or_this raw came) told)

abbrev pub came_before : Seen → Bytes → Bool
came_before seen raw = has_come seen (slice_of raw)

-- the names so far, and those that follow
abbrev pub names_with :
    Bytes → Tree → Bytes → List Bytes → Seen → List Sight → Option (List Bytes)
names_with dir files input names seen told =
    option_map (λ others. names ++ others) (names_after dir files input (came_before seen) told)
