use Rattle.std.proofs.Common.{◌≡◌, length}
use Rattle.std.specs.List.{Contains}
use Rattle.base_files.specs.Bytes.{Bytes}
use Rattle.rustkeys_base.specs.Requests.{library_in, library_paths}
use Rattle.rustkeys_base.proofs.libraries.library_in.Given as goal

-- the folders that are left have what all have
abbrev pub invariant-loop-folder : goal.invariant-loop-folder
invariant-loop-folder g l = record {
  within : (name : Bytes) → Contains (library_paths l.rest l.name) name → Contains (library_paths l.folders l.name) name;
  first : library_in (g.F.Files.tree l.fn.files) l.rest l.name ≡ library_in (g.F.Files.tree l.fn.files) l.folders l.name;
  tree : g.F.Files.tree l.files ≡ g.F.Files.tree l.fn.files;
  steady : g.F.Files.failed l.files ≡ g.F.Files.failed l.fn.files;
}

abbrev pub decreases-loop-folder : goal.decreases-loop-folder
decreases-loop-folder g l = length l.rest
