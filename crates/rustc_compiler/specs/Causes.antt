-- Why there is no compiler.
use Rattle.std.specs.Prelude.{◌≡◌, ◌⊎◌, Bool, false, List, find, Option, None, Some, is_none}
use Rattle.std.specs.List.{Contains}
use Rattle.base_files.specs.Bytes.{Bytes}
use Rattle.base_files.specs.Tree.{Tree, contents_at}
use Rattle.rustc_compiler.specs.declared.fault.RustFault.{RustFault}
use Rattle.rustc_compiler.specs.declared.fault.RustFault.TheVariants.{Memory, NoHost, Read}

-- the first of these that isn't a regular file
abbrev pub first_missing : Tree → List Bytes → Option Bytes
first_missing tree paths = find (λ path. is_none (contents_at tree path)) paths

-- Out of memory; or there was an I/O error at that file, or it isn't there.
abbrev pub FileCause : Tree → Bytes → (Bytes → Type 0) → RustFault → Type 0
FileCause tree path on_file Memory = Unit {0}
FileCause tree path on_file NoHost = ⊥
FileCause tree path on_file (Read name) = (name ≡ path) × (on_file path ⊎ (contents_at tree path ≡ None))

-- Out of memory; no line that gives the host; or one of the toolchain's files: an I/O error there, or the first that isn't there.
abbrev pub CauseOf : Bool → Tree → List Bytes → (Bytes → Type 0) → RustFault → Type 0
CauseOf has_host tree paths on_file Memory = Unit {0}
CauseOf has_host tree paths on_file NoHost = has_host ≡ false
CauseOf has_host tree paths on_file (Read path) = (Contains paths path × on_file path) ⊎ (first_missing tree paths ≡ Some path)
