-- Which files a request to rustc asks for before there is a verdict.
use Rattle.std.specs.Prelude.{◌≡◌, ◌++◌, List, Option, None, Some, codes, map}
use Rattle.std.specs.List.{Contains, flat_map}
use Rattle.base_files.specs.Bytes.{Bytes}
use Rattle.base_files.specs.Path.{join}
use Rattle.base_files.specs.Tree.{Tree}
use Rattle.cmdlines_base.specs.Reading.{Item}
use Rattle.rustc_options.specs.declared.data.ArgData.{ArgData}
use Rattle.rustc_options.specs.declared.data.ArgData.TheVariants.{Target}
use Rattle.rustc_options.specs.declared.kind.ArgKind.{ArgKind}
use Rattle.rustc_options.specs.declared.types.ArgTarget.{ArgTarget}
use Rattle.rustc_options.specs.declared.types.ArgTarget.TheVariants.{Name, Path, Unsure}
use Rattle.rustkeys_base.specs.Expansion.{expanded_by_rustc, path_of}
use Rattle.rustkeys_base.specs.Facts.{facts_of}
use Rattle.rustkeys_base.specs.Parsing.{request_reading}
use Rattle.rustkeys_base.specs.Requests.{library_paths}
use Rattle.rustkeys_base.specs.Saying.{Token, by_data, token_of}
use Rattle.rustkeys_base.specs.declared.facts.Facts.{Facts}

-- one of the words names that response file
abbrev pub IsNamedIn : Bytes → List Bytes → Bytes → Type 0
IsNamedIn dir words name = (word : Bytes) × Contains words word × (path_of dir word ≡ Some name)

-- the file of the directory that has a target's name, with `.json` appended
abbrev pub target_file : Bytes → ArgTarget → Option Bytes
target_file dir (Name word) = Some (join dir (word ++ codes ".json"))
target_file dir (Path path) = None
target_file dir (Unsure word) = None

abbrev pub target_file_said : Bytes → ArgData → Option Bytes
target_file_said dir (Target target) = target_file dir target
target_file_said dir _ = None

abbrev pub target_file_in : Bytes → Token → Option Bytes
target_file_in dir token = by_data (target_file_said dir) token

-- one of the items names a target of that file
abbrev pub IsTargetFile : Bytes → List (Item ArgKind) → Bytes → Type 0
IsTargetFile dir items name = (item : Item ArgKind) × Contains items item × (target_file_in dir (token_of item) ≡ Some name)

-- where static libraries are looked for
abbrev pub library_places : Bytes → Facts → List Bytes
library_places dir f = flat_map (library_paths (map (join dir) f.static_paths)) f.static_libraries

-- Items ask for the files of targets, and for static libraries at each of their places.
pub data IsAskedByItems (dir : Bytes) (items : List (Item ArgKind)) (name : Bytes) : Type 0 where
  for_target : IsTargetFile dir items name → IsAskedByItems dir items name
  for_library : Contains (library_places dir (facts_of (map token_of items))) name → IsAskedByItems dir items name

-- Words ask for the response files that they name, and for what their items ask for, read with these files opened.
pub data IsAskedByRustc (dir : Bytes) (tree : Tree) (words : List Bytes) (name : Bytes) : Type 0 where
  by_word : IsNamedIn dir words name → IsAskedByRustc dir tree words name
  by_items : IsAskedByItems dir (request_reading (expanded_by_rustc dir tree words)).items name → IsAskedByRustc dir tree words name
