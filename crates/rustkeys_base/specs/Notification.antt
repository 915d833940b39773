-- What rustc says of the metadata that it has written.
use Rattle.std.specs.Prelude.{Bool, false, not, ◌&&◌, ◌||◌, nat_eq, [], ◌∷◌, Option, option_and_then, codes}
use Rattle.std.specs.List.{starts_with, ends_with}
use Rattle.std.specs.Option.{option_map_or}
use Rattle.base_files.specs.Bytes.{Bytes}
use Rattle.serde_json.specs.Data.{Data}
use Rattle.serde_json.specs.Find.{get, as_str}
use Rattle.serde_json.specs.Read.{read}
use Rattle.serde_json.specs.Written.{has_float}

-- how a file of metadata ends
abbrev pub extension : Bytes
extension = codes ".rmeta"

-- whether the word occurs in the text, at its start or further on
abbrev pub holds : Bytes → Bytes → Bool
holds word [] = starts_with nat_eq [] word
holds word (b ∷ text) = starts_with nat_eq (b ∷ text) word || holds word text

-- the text member `artifact` of an object
abbrev pub artifact_of : Data → Option Bytes
artifact_of value = option_and_then as_str (get (codes "artifact") value)

-- an object of no number but whole ones, whose artifact is a file of metadata
abbrev pub tells_of_metadata : Data → Bool
tells_of_metadata value = option_map_or (λ artifact. ends_with nat_eq artifact extension) (artifact_of value) false && not (has_float value)

-- a line that contains the extension as it is, and is JSON of such an object
abbrev pub is_rmeta_notification : Bytes → Bool
is_rmeta_notification line = holds extension line && option_map_or tells_of_metadata (read line) false
