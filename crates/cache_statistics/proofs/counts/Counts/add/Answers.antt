use Rattle.std.proofs.Common.{arith}
use Rattle.std.proofs.lemmas.Grind.{text_groups}
use Rattle.cache_statistics.proofs.counts.Counts.add.Goals as goal

pub returns : goal.returns
returns c = grind (arith, text_groups)
