-- The bytes that are hashed for a request to rustc.
use Rattle.std.specs.Prelude.{List, [], ◌∷◌, ◌++◌, unwrap_or, codes}
use Rattle.std.specs.List.{flat_map}
use Rattle.std.specs.Str.{byte}
use Rattle.base_files.specs.Bytes.{Bytes}
use Rattle.base_formats.specs.Spelling.{framed}
use Rattle.rustc_parts.specs.declared.parts.EnvDep.{EnvDep}
use Rattle.rustc_parts.specs.declared.parts.Parts.{Parts}

-- the version of this layout
abbrev pub cache_version : Bytes
cache_version = codes "8"

-- one right after the other
abbrev pub joined : List Bytes → Bytes
joined pieces = flat_map (λ piece. piece) pieces

-- a name and a value, each after its length, with `=` between them
abbrev pub pair_bytes : Bytes × Bytes → Bytes
pair_bytes pair = framed pair.0 ++ (byte "=" ∷ framed pair.1)

-- a variable that isn't set is written as an empty one
abbrev pub env_dep_bytes : EnvDep → Bytes
env_dep_bytes dep = pair_bytes (dep.name, unwrap_or dep.value [])

-- the digests of files: of the sources, of the crates that they name, of static libraries, of the target's file, and of the profile
abbrev pub files_bytes : Parts → Bytes
files_bytes p = joined p.sources ++ joined p.externs ++ joined p.archives ++ unwrap_or p.target [] ++ unwrap_or p.profile []

-- The version of this layout, the digests of the toolchain, the words after their joined length, the digests of files, the variables that the source names, those of the call that count, the directory after its length, what the compiler says of its version, and the byte 255.
abbrev pub material_of : Parts → Bytes
material_of p =
    cache_version
    ++ joined p.toolchain
    ++ framed (joined p.words)
    ++ files_bytes p
    ++ flat_map env_dep_bytes p.env_deps
    ++ flat_map pair_bytes p.variables
    ++ framed p.dir
    ++ p.version
    ++ (255 ∷ [])
