use Rattle.std.proofs.Common.{◌≡◌, map, drop}
use Rattle.std.specs.List.{fold}
use Rattle.base_files.specs.Path.{part_of}
use Rattle.ckeys_base.specs.NormalPath.{followed_by, names_of}
use Rattle.ckeys_base.proofs.normalize.normal_names.Given as goal

-- the names so far, and the components that are still to follow
abbrev pub invariant-loop-component : goal.invariant-loop-component
invariant-loop-component l = fold followed_by (map (λ name. name.now) l.names.items) (map part_of (drop l.component-index l.component-items)) ≡ names_of l.fn.path
