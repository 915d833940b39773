-- How names are written between quotes.
use Rattle.std.specs.Prelude.{ℕ, Bool, true, false, ◌==◌, ◌||◌, [], ◌∷◌, if◌then◌else◌}
use Rattle.std.specs.List.{flat_map}
use Rattle.base_files.specs.Bytes.{Bytes}

-- 34 is '"', 92 is '\'
abbrev pub is_backslash : ℕ → Bool
is_backslash b = b == 92

-- a byte that is written after a backslash
abbrev pub is_special : ℕ → Bool
is_special b = b == 34 || b == 92

abbrev pub spelled_byte : ℕ → Bytes
spelled_byte b = if is_special b then 92 ∷ b ∷ [] else b ∷ []

-- a name as written between quotes: a backslash before each quote and each backslash
abbrev pub spelled : Bytes → Bytes
spelled name = flat_map spelled_byte name

-- what is meant by bytes, after a backslash or not
abbrev pub meant_from : Bool → Bytes → Bytes
meant_from escaped [] = []
meant_from true (b ∷ rest) = b ∷ meant_from false rest
meant_from false (b ∷ rest) = if b == 92 then meant_from true rest else b ∷ meant_from false rest

-- the name that is written like this between quotes
abbrev pub meant : Bytes → Bytes
meant raw = meant_from false raw
