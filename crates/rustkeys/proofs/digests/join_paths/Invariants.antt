use Rattle.std.proofs.Common.{◌≡◌, map, take}
use Rattle.base_files.specs.Path.{join}
use Rattle.rustkeys.proofs.digests.join_paths.Given as goal

-- a path for each so far
abbrev pub invariant-loop-path : goal.invariant-loop-path
invariant-loop-path l = l.list.items ≡ map (join l.dir) (take l.path-index l.paths)
