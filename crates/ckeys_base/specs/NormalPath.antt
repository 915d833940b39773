-- Paths in a normal form.
use Rattle.std.specs.Prelude.{ℕ, ◌-◌, ◌==◌, if◌then◌else◌, List, [], ◌∷◌, ◌++◌, length, take, codes}
use Rattle.std.specs.List.{fold, join_with_byte}
use Rattle.std.specs.Char.{to_ascii_lowercase}
use Rattle.std.specs.Str.{byte}
use Rattle.base_files.specs.Bytes.{Bytes}
use Rattle.base_files.specs.Path.{Part, root, current, parent, named, components, is_absolute}

-- these names without the last one
abbrev pub without_last : List Bytes → List Bytes
without_last names = take (length names - 1) names

-- the names that stay once a component follows them
abbrev pub followed_by : List Bytes → Part → List Bytes
followed_by names root = names
followed_by names current = names
followed_by names parent = without_last names
followed_by names (named name) = names ++ name ∷ []

-- the names that stay of a path
abbrev pub names_of : Bytes → List Bytes
names_of path = fold followed_by [] (components path)

abbrev pub root_of : Bytes → Bytes
root_of path = if is_absolute path then codes "/" else []

abbrev pub normal_path : Bytes → Bytes
normal_path path = root_of path ++ join_with_byte (byte "/") (names_of path)

-- a byte of a path of Windows
abbrev pub win_byte : ℕ → ℕ
win_byte b = if b == byte "\\" then byte "/" else to_ascii_lowercase b
