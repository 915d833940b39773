use Rattle.std.proofs.Common.{arith}
use Rattle.std.proofs.lemmas.Grind.{text_groups}
use Rattle.sccache_recorded_builds.proofs.tally.Tally.note.Goals as goal

pub returns : goal.returns
returns c = grind (arith, text_groups)
