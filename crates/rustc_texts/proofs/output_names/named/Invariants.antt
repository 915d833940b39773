use Rattle.std.proofs.Common.{◌≡◌, map}
use Rattle.rustc_texts.specs.Outputs.{Tells, each_once}
use Rattle.rustc_texts.proofs.output_names.named.Given as goal

-- those of the lines so far, which the set tells
abbrev pub invariant-loop-line : goal.invariant-loop-line
invariant-loop-line l = record {
  names : l.names.items ≡ each_once (map (λ line. line.now) l.yielded);
  told : Tells l.known l.names.items;
}
