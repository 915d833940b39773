use Rattle.std.proofs.Common.{◌≡◌, map, take}
use Rattle.base_files.specs.Path.{join}
use Rattle.rustc_texts.proofs.dep_info.join_names.Given as goal

-- those of the names so far
abbrev pub invariant-loop-name : goal.invariant-loop-name
invariant-loop-name l = l.paths.items ≡ map (join l.dir) (take l.name-index l.names)
