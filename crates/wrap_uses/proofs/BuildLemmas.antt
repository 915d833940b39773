-- What follows for a build.
use Rattle.std.proofs.Common.{List, [], ◌∷◌}
use Rattle.wrap.specs.Whole.{AllAnswer, Served}
use Rattle.wrap_uses.specs.Builds.{SkippedAreMade}

-- where all outputs are made, those of the steps that are skipped are
pub skipped_among : (run : List Served) → AllAnswer run → SkippedAreMade run
skipped_among [] all = tt
skipped_among (s ∷ run) all = ((λ skipped. all.0), skipped_among run all.1)
