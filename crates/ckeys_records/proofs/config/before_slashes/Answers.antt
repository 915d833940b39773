use Rattle.std.proofs.Common.{◌∙◌}
use Rattle.std.proofs.lemmas.Bool.{ne_eqb}
use Rattle.ckeys_records.proofs.FolderLemmas.{shorter, whole}
use Rattle.ckeys_records.proofs.config.before_slashes.Goals as goal

pub loop-last-preserved : goal.loop-last-preserved
loop-last-preserved c = shorter c.loop-last.kept.now c.in-Some.shorter.now c.in-Some.last.now c.in-Some.ensures.cases.0 c.if-last-ne47.false ∙ c.loop-last.invariant

pub returns-then-last-ne47 : goal.returns-then-last-ne47
returns-then-last-ne47 c = whole c.loop-last.kept.now c.in-Some.shorter.now c.in-Some.last.now c.in-Some.ensures.cases.0 (ne_eqb c.in-Some.last.now 47 c.if-last-ne47.true) ∙ c.loop-last.invariant
