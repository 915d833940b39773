-- The named files of a text, said by its lines and by the files.
use Rattle.std.specs.Prelude.{◌≡◌, true, List, ◌∷◌, ◌++◌}
use Rattle.std.specs.List.{Contains}
use Rattle.base_files.specs.Bytes.{Bytes}
use Rattle.base_files.specs.Tree.{Tree}
use Rattle.ckeys_marker_walk.specs.Lines.{lines}
use Rattle.ckeys_marker_walk.specs.Markers.{IsMarker}
use Rattle.ckeys_marker_walk.specs.Named.{is_named, tells_time}
use Rattle.ckeys_marker_walk.specs.Told.{HasMarker, IsRefused}

-- The one name is in the list, and the other one is after it.
pub record StandsBefore (names : List Bytes) (one other : Bytes) : Type 0 where
  pub front : List Bytes
  pub after : List Bytes
  pub whole : names ≡ front ++ one ∷ after
  pub stands : Contains after other

-- A line of the text is a marker of the one name, and no line before it is a marker of the other.
pub record AppearsBefore (text one other : Bytes) : Type 0 where
  pub front : List Bytes
  pub line : Bytes
  pub after : List Bytes
  pub whole : lines text ≡ front ++ line ∷ after
  pub is : IsMarker line one
  pub none : (earlier : Bytes) → Contains front earlier → ¬ IsMarker earlier other

module _ (dir : Bytes) (files : Tree) (input : Bytes) where
  -- a marker of the text names this file, and it counts
  abbrev pub NamesFile : Bytes → Bytes → Type 0
  NamesFile text name = HasMarker text name × (is_named dir files input name ≡ true)

  -- Why a text is refused on these files.
  pub data IsRefusedOn (text : Bytes) : Type 0 where
    -- something in it refuses it
    by_text : IsRefused text → IsRefusedOn text
    -- a file that it names holds `__TIME__`
    by_file : (name : Bytes) → NamesFile text name → tells_time dir files name ≡ true → IsRefusedOn text
