use Rattle.std.proofs.Common.{◌≡◌, ◌↔◌, true, length}
use Rattle.ckeys_base.proofs.EmptiedShelf.{keeps_none}
use Rattle.tests_kit.proofs.forgetful.Forgetful.drop_all.Goals as goal
use Rattle.tests_kit.proofs.forgetful.Forgetful.drop_all.Goals.{then-self, else-self}

pub returns-clause-kept : goal.returns-clause-kept
returns-clause-kept g c =
    let was : (c.if-self.self ≡ true) ↔ ((c.args.self.now.kept ≡ true) × (length c.args.self.now.map.entries ≡ 0)) =
    elim c.if-self.branch [
      | then-self w ↦ (λ h. (w.if-self.true, w.is_empty-self.ensures.0 (cc)), λ p. cc (w.is_empty-self.ensures.1 p.1))
      | else-self w ↦ (λ h. cc, λ p. cc)
    ] in
    keeps_none g.K.PartialEq.eq c.keys_are_themselves.ensures c.args.self.now.map.entries _ c.clear.ensures.empty c.args.self.now.kept c.if-self.self was
