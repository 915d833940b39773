-- Paths as Unix reads them: bytes, cut at slashes.
use Rattle.std.specs.Prelude.{ℕ, Bool, not, ◌||◌, ◌==◌, nat_eq, if◌then◌else◌, List, [], ◌∷◌, ◌++◌, length, map, filter, Option, None, Some, unwrap_or, codes, option_and_then}
use Rattle.std.specs.Cmp.Lexicographic.{slice_cmp}
use Rattle.std.specs.List.{slice_split, before_first, before_last, after_last, join_with_byte, starts_with, ends_with, last_or}
use Rattle.std.specs.Option.{option_map_or}
use Rattle.std.specs.Ordering.{nat_cmp, ordering_then}
use Rattle.std.specs.Str.{byte, bytes_eq}
use Rattle.std.specs.declared.cmp.Ordering.{Ordering}
use Rattle.base_files.specs.Bytes.{Bytes}
use Rattle.base_files.specs.declared.path.Component.{Component}
use Rattle.base_files.specs.declared.path.Component.TheVariants.{RootDir, CurDir, ParentDir, Normal}

abbrev pub is_slash : ℕ → Bool
is_slash b = b == byte "/"

abbrev pub is_dot : ℕ → Bool
is_dot b = b == byte "."

-- the pieces between slashes
abbrev pub pieces : Bytes → List Bytes
pieces path = slice_split is_slash path

abbrev pub is_absolute : Bytes → Bool
is_absolute path = starts_with nat_eq path (codes "/")

-- with a slash at its end, ready for a name to follow
abbrev pub with_slash : Bytes → Bytes
with_slash base = if ends_with nat_eq base (codes "/") then base else base ++ codes "/"

-- the path as read from the base, which an absolute path does not look at
abbrev pub join : Bytes → Bytes → Bytes
join base path = if (is_absolute path || length base == 0) then path else with_slash base ++ path

-- a component, without where its bytes lie in memory
pub data Part : Type 0 where
  root : Part
  current : Part
  parent : Part
  named : Bytes → Part

abbrev pub part_of : Component → Part
part_of RootDir = root
part_of CurDir = current
part_of ParentDir = parent
part_of (Normal name) = named name.now

-- a piece that is a component wherever it is: neither empty nor `.`
abbrev pub counts : Bytes → Bool
counts piece = not (length piece == 0 || bytes_eq piece (codes "."))

abbrev pub part_in : Bytes → Part
part_in piece = if bytes_eq piece (codes "..") then parent else named piece

-- the component that only the start of a path has: the root, or the `.` of a relative path
abbrev pub start_of : Bytes → List Part
start_of path =
    let first = before_first is_slash path in
    if is_absolute path then root ∷ [] else (if bytes_eq first (codes ".") then current ∷ [] else [])

abbrev pub components : Bytes → List Part
components path = start_of path ++ map part_in (filter counts (pieces path))

-- the name in a component
abbrev pub name_in : Part → Option Bytes
name_in root = None
name_in current = None
name_in parent = None
name_in (named name) = Some name

-- the root comes first, then `.`, then `..`, and then names
abbrev pub rank : Part → ℕ
rank root = 0
rank current = 1
rank parent = 2
rank (named name) = 3

-- two components by their ranks, and two names by their bytes
abbrev pub part_cmp : Part → Part → Ordering
part_cmp p q =
    let names = slice_cmp nat_cmp (unwrap_or (name_in p) []) (unwrap_or (name_in q) []) in
    ordering_then (nat_cmp (rank p) (rank q)) names

-- Compares paths component by component; a path comes before those that extend it. Paths of the same components compare by their bytes.
abbrev pub path_cmp : Bytes → Bytes → Ordering
path_cmp p q = ordering_then (slice_cmp part_cmp (components p) (components q)) (slice_cmp nat_cmp p q)

-- the last component, where it is a name
abbrev pub file_name : Bytes → Option Bytes
file_name path = option_and_then name_in (last_or None (components path))

-- whether a name has a dot, and its last dot is not its first byte
abbrev pub has_extension : Bytes → Bool
has_extension name = not (length (before_last is_dot name) == 0)

abbrev pub stem : Bytes → Bytes
stem name = if has_extension name then before_last is_dot name else name

abbrev pub extension_in : Bytes → Option Bytes
extension_in name = if has_extension name then Some (after_last is_dot name) else None

abbrev pub extension : Bytes → Option Bytes
extension path = option_and_then extension_in (file_name path)

-- the path with this in place of its last component, and nothing after it
abbrev pub renamed : Bytes → Bytes → Bytes
renamed path name = join_with_byte (byte "/") (before_last counts (pieces path) ++ name ∷ [])

abbrev pub with_extension : Bytes → Bytes → Bytes
with_extension path ending =
    option_map_or (λ name. renamed path (stem name ++ byte "." ∷ ending)) (file_name path) path
