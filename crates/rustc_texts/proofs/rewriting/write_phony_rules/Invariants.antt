use Rattle.std.proofs.Common.{◌≡◌, ◌++◌, take}
use Rattle.std.specs.List.{flat_map}
use Rattle.rustc_texts.specs.Rewriting.{phony_rule}
use Rattle.rustc_texts.proofs.rewriting.write_phony_rules.Given as goal

-- the rules of the paths so far
abbrev pub invariant-loop-path : goal.invariant-loop-path
invariant-loop-path l = l.written.items ≡ l.fn.written.items ++ flat_map phony_rule (take l.path-index l.paths)
