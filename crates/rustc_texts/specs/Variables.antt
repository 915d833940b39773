-- The variables of a call: those that count in keys, and those with which it's compiled.
use Rattle.std.specs.Prelude.{nat_eq, Bool, not, ◌&&◌, codes}
use Rattle.std.specs.List.{starts_with}
use Rattle.std.specs.Str.{bytes_eq}
use Rattle.base_files.specs.Bytes.{Bytes}

-- those of cargo, but for its registries, its job server, its count of jobs and its flags
abbrev pub counts : Bytes → Bool
counts name =
    starts_with nat_eq name (codes "CARGO_")
    && not (starts_with nat_eq name (codes "CARGO_REGISTRIES_"))
    && not (bytes_eq name (codes "CARGO_MAKEFLAGS"))
    && not (bytes_eq name (codes "CARGO_BUILD_JOBS"))
    && not (bytes_eq name (codes "CARGO_ENCODED_RUSTFLAGS"))

-- all but the one that colours messages
abbrev pub compiles_with : Bytes → Bool
compiles_with name = not (bytes_eq name (codes "RUSTC_COLOR"))
