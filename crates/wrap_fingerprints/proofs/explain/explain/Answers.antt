use Rattle.std.proofs.Common.{subst}
use Rattle.wrap_fingerprints.specs.Explaining.{AgreeIn, IsFound, parts_in}
use Rattle.wrap_fingerprints.proofs.AgreeLemmas.{found_first, none_is_equal}
use Rattle.wrap_fingerprints.proofs.explain.explain.Goals as goal

pub returns-clause-first : goal.returns-clause-first
returns-clause-first c =
    let one = c.args.one.now in
    let other = c.args.other.now in
    found_first (AgreeIn one other) (parts_in one) c.first_unlike.result (subst (λ parts. IsFound (AgreeIn one other) parts c.first_unlike.result) c.parts_in.ensures c.first_unlike.ensures)

pub returns-clause-equal : goal.returns-clause-equal
returns-clause-equal c =
    let one = c.args.one.now in
    let other = c.args.other.now in
    none_is_equal one other c.first_unlike.result (subst (λ parts. IsFound (AgreeIn one other) parts c.first_unlike.result) c.parts_in.ensures c.first_unlike.ensures)
