-- Paths by name, with one more.
use Rattle.std.proofs.Common.{◌≡◌, Bool, true, false, Bor, Option, Some}
use Rattle.std.specs.Prelude.{cond, if◌then◌else◌}
use Rattle.base_files.specs.Bytes.{Bytes}
use Rattle.wrap.specs.PathMap.{path_found}

-- the path that is inserted, or the one that was there
pub path-cond : (here : Bool) (path : Bor Bytes) (before : Option (Bor Bytes)) (first rest : Bytes) → path.now ≡ first → path_found before ≡ rest → path_found (cond here (Some path) before) ≡ if here then first else rest
path-cond true path before first rest is held = is
path-cond false path before first rest is held = held
