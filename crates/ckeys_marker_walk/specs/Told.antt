-- What the lines of a text say, by the grammar of markers.
use Rattle.std.specs.Prelude.{◌≡◌, true, List, [], ◌∷◌, Option, None, Some}
use Rattle.std.specs.List.{Contains, cons_option}
use Rattle.base_files.specs.Bytes.{Bytes}
use Rattle.ckeys_marker_walk.specs.Lines.{lines}
use Rattle.ckeys_marker_walk.specs.Markers.{IsMarker, IsRefusing}
use Rattle.ckeys_marker_walk.specs.Named.{asks_for_more}
use Rattle.ckeys_marker_walk.specs.Scanning.{Sight, named, refused}
use Rattle.ckeys_marker_walk.specs.Spelling.{meant, spelled}

-- The line is no marker and refuses nothing.
pub record IsPlain (line : Bytes) : Type 0 where
  pub no_marker : (name : Bytes) → ¬ IsMarker line name
  pub no_refusal : ¬ IsRefusing line

-- The line is the marker of the name that is written like this between its quotes, or it refuses its text, or it is plain.
abbrev pub Says : Bytes → Option Sight → Type 0
Says line (Some (named raw)) = IsMarker line (meant raw) × (spelled (meant raw) ≡ raw)
Says line (Some refused) = IsRefusing line
Says line None = IsPlain line

-- What lines say, one after another; plain lines say nothing.
abbrev pub Tell : List Bytes → List Sight → Type 0
Tell [] told = told ≡ []
Tell (line ∷ lines) told = (said : Option Sight) × (others : List Sight)
    × Says line said × Tell lines others × (told ≡ cons_option said others)

-- A line of the text is a marker of that name.
pub record HasMarker (text name : Bytes) : Type 0 where
  pub line : Bytes
  pub stands : Contains (lines text) line
  pub is : IsMarker line name

-- Why a text is refused, whatever its files hold.
pub data IsRefused (text : Bytes) : Type 0 where
  -- it asks for a file that no marker names
  asks : asks_for_more text ≡ true → IsRefused text
  -- one of its lines refuses it
  line : (line : Bytes) → Contains (lines text) line → IsRefusing line → IsRefused text
