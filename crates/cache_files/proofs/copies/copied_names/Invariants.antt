use Rattle.std.proofs.Common.{◌≡◌, take}
use Rattle.cache_files.proofs.copies.copied_names.Given as goal

abbrev pub invariant-loop-output : goal.invariant-loop-output
invariant-loop-output l = l.copy ≡ take l.output-index l.names
