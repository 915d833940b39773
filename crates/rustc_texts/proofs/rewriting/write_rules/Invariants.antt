use Rattle.std.proofs.Common.{◌≡◌, ◌++◌, take}
use Rattle.std.specs.List.{flat_map}
use Rattle.rustc_texts.specs.Rewriting.{rule_for}
use Rattle.rustc_texts.proofs.rewriting.write_rules.Given as goal

-- the rules of the targets so far
abbrev pub invariant-loop-target : goal.invariant-loop-target
invariant-loop-target l =
    l.written.items ≡ l.fn.written.items ++ flat_map (rule_for l.wanted) (take l.target-index l.targets)
