-- A rustc compiler as plain values, and which files make its toolchain.
use Rattle.std.specs.Prelude.{Bool, ◌==◌, nat_eq, List, ◌++◌, codes, Option}
use Rattle.std.specs.List.{list_any, slice_split, starts_with}
use Rattle.std.specs.Option.{option_to_list}
use Rattle.base_files.specs.Bytes.{Bytes}
use Rattle.base_files.specs.Path.{path_cmp}
use Rattle.rustc_options.specs.Sorted.{sorted_by}

-- what is known of a compiler: where it is, what it says of its version, its folder of libraries, its archive where it has one, and the digests of its toolchain
pub record Rustc : Type 0 where
  pub executable : Bytes
  pub version : Bytes
  pub sysroot : Bytes
  pub archive : Option Bytes
  pub toolchain : List Bytes

-- whether a line gives the host
abbrev pub tells_host : Bytes → Bool
tells_host line = starts_with nat_eq line (codes "host: ")

-- whether a line of a version gives the host; a line ends at 10
abbrev pub has_host : Bytes → Bool
has_host version = list_any tells_host (slice_split (λ b. b == 10) version)

-- the files of a toolchain, libraries and archive together, in the order of paths
abbrev pub toolchain_files : List Bytes → Option Bytes → List Bytes
toolchain_files libraries archive = sorted_by path_cmp (libraries ++ option_to_list archive)
