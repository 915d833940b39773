-- Which compiler a name refers to, where that name may lead to the wrapper itself.
use Rattle.std.specs.Prelude.{Bool, false, not, ◌&&◌, ◌==◌, if◌then◌else◌, List, [], map, Option, codes}
use Rattle.std.specs.List.{slice_split, find}
use Rattle.std.specs.Map.{lookup}
use Rattle.std.specs.Option.{option_map_or, option_and_then, unwrap_or}
use Rattle.std.specs.Str.{byte, bytes_eq}
use Rattle.base_files.specs.Bytes.{Bytes}
use Rattle.base_files.specs.Path.{join, file_name}
use Rattle.base_files.specs.Tree.{Tree, is_file_at, canonical_at}

-- the file name in a name is the wrapper's
abbrev pub names_wrapper : Bytes → Bool
names_wrapper name = option_map_or (λ last. bytes_eq last (codes "sccache")) (file_name name) false

-- what has this name is the wrapper
abbrev pub is_wrapper : Tree → Bytes → Bool
is_wrapper tree path = option_map_or names_wrapper (canonical_at tree path) false

-- a file has this name, and isn't the wrapper
abbrev pub is_compiler : Tree → Bytes → Bool
is_compiler tree path = is_file_at tree path && not (is_wrapper tree path)

-- names and values of variables, of which the first of a name counts
abbrev pub Variables : Type 0
Variables = List (Bytes × Bytes)

abbrev pub value_of : Variables → Bytes → Option Bytes
value_of env name = lookup (bytes_eq name) env

-- the folders of a search path
abbrev pub folders_in : Bytes → List Bytes
folders_in path = slice_split (λ b. b == byte ":") path

-- the files of that name that the search path offers, whether or not they are there
abbrev pub offers : Variables → Bytes → List Bytes
offers env name = option_map_or (λ path. map (λ folder. join folder name) (folders_in path)) (value_of env (codes "PATH")) []

-- the first of them that is a compiler
abbrev pub first_compiler : Tree → Bytes → Variables → Option Bytes
first_compiler tree executable env = option_and_then (λ name. find (is_compiler tree) (offers env name)) (file_name executable)

abbrev pub resolved : Tree → Bytes → Variables → Bytes
resolved tree executable env =
    if is_wrapper tree executable then unwrap_or (first_compiler tree executable env) executable else executable
