use Rattle.std.proofs.Common.{◌≡◌, map, take}
use Rattle.rustc_texts.specs.Rewriting.{escaped}
use Rattle.rustc_texts.proofs.rewriting.all_escaped.Given as goal

-- the paths so far
abbrev pub invariant-loop-path : goal.invariant-loop-path
invariant-loop-path l = l.all.items ≡ map escaped (take l.path-index l.paths)
