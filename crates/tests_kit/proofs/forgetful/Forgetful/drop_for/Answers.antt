use Rattle.tests_kit.proofs.AloneHeld.{drops_alone}
use Rattle.tests_kit.proofs.forgetful.Forgetful.drop_for.Goals as goal

pub returns-clause-kept : goal.returns-clause-kept
returns-clause-kept g c = drops_alone (g.K.PartialEq.eq c.args.key.now) _ _ _ c.remove.ensures.updates.0 c.drop_all.ensures.gone _ _ c.drop_all.ensures.kept
