-- The one stripping of a text, as it is found from the left.
use Rattle.std.specs.Prelude.{ℕ, zero, suc, ◌+◌, ◌-◌, ◌==◌, Bool, nat_eq, nat_lt, Option, Some, None, List, [], ◌∷◌, length, codes, if◌then◌else◌}
use Rattle.std.specs.List.{starts_with, list_all}
use Rattle.base_files.specs.Bytes.{Bytes}
use Rattle.ckeys_base.specs.declared.strip.places.Kind.{Kind}
use Rattle.ckeys_base.specs.declared.strip.places.Kind.TheVariants.{Text, Argument}
use Rattle.ckeys_base.specs.FolderPlaces.{Places, text_places, argument_places, longest}
use Rattle.ckeys_base.specs.Stripping.{parts, left_by}

abbrev pub places_of : Kind → Places
places_of Text = text_places
places_of Argument = argument_places

-- each folder begins with a slash, as an absolute one does, so that none counts elsewhere
abbrev pub all_begin_with_slash : List Bytes → Bool
all_begin_with_slash folders = list_all (λ folder. starts_with nat_eq folder (codes "/")) folders

-- after passing over `skip` places, the starts among the n places from i on
unfoldable pub cuts : (ℕ → ℕ) → ℕ → ℕ → ℕ → List ℕ
cuts width skip i zero = []
cuts width zero i (suc n) = if width i == 0 then cuts width 0 (i + 1) n else i ∷ cuts width (width i - 1) (i + 1) n
cuts width (suc skip) i (suc n) = cuts width skip (i + 1) n

-- the parts that stay, from a place on
abbrev pub kept_parts : (ℕ → ℕ) → Bytes → ℕ → List Bytes
kept_parts width text from = parts width text from (cuts width 0 from (length text - from))

-- where the part after place i begins, if there is one
abbrev pub start_after : (ℕ → ℕ) → ℕ → ℕ → Option ℕ
start_after width n i = if nat_lt i n then Some (i + width i) else None

abbrev pub stripped : (ℕ → ℕ) → Bytes → Bytes
stripped width text = left_by width text (cuts width 0 0 (length text))

-- what is left of a text, as a function of it and the folders
abbrev pub stripped_of : Places → List Bytes → Bytes → Bytes
stripped_of places folders text = stripped (longest places folders text) text
