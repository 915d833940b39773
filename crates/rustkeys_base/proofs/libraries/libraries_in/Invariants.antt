use Rattle.std.proofs.Common.{◌≡◌, ◌++◌, filter_map, length}
use Rattle.std.specs.List.{Contains, flat_map}
use Rattle.base_files.specs.Bytes.{Bytes}
use Rattle.rustkeys_base.specs.Requests.{library_in, library_paths}
use Rattle.rustkeys_base.proofs.libraries.libraries_in.Given as goal

-- those found, and those of the names that are left
abbrev pub invariant-loop-name : goal.invariant-loop-name
invariant-loop-name g l = record {
  within : (name : Bytes) → Contains (flat_map (library_paths l.folders) l.rest) name → Contains (flat_map (library_paths l.folders) l.names) name;
  found : l.found.items ++ filter_map (library_in (g.F.Files.tree l.fn.files) l.folders) l.rest ≡ filter_map (library_in (g.F.Files.tree l.fn.files) l.folders) l.names;
  tree : g.F.Files.tree l.files ≡ g.F.Files.tree l.fn.files;
  steady : g.F.Files.failed l.files ≡ g.F.Files.failed l.fn.files;
}

abbrev pub decreases-loop-name : goal.decreases-loop-name
decreases-loop-name g l = length l.rest
