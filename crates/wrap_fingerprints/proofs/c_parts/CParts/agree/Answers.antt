use Rattle.std.proofs.Common.{subst, sym}
use Rattle.std.specs.Bool.{Decides}
use Rattle.std.proofs.lemmas.Slice.Eq.{slice_eq-Decides}
use Rattle.wrap_fingerprints.specs.Explaining.{AgreeByC}
use Rattle.wrap_fingerprints.proofs.EqualLemmas.{bytes_are, names_are, pairs_are}
use Rattle.wrap_fingerprints.proofs.c_parts.CParts.agree.Goals as goal

pub returns-in-Words : goal.returns-in-Words
returns-in-Words c = subst (λ part. Decides c.eq-in-Words.result (AgreeByC c.args.self.now c.args.other.now part)) (sym c.in-Words.is) (slice_eq-Decides bytes_are _ _ c.eq-in-Words.result c.eq-in-Words.ensures)

pub returns-in-Variables : goal.returns-in-Variables
returns-in-Variables c = subst (λ part. Decides c.eq-in-Variables.result (AgreeByC c.args.self.now c.args.other.now part)) (sym c.in-Variables.is) (slice_eq-Decides pairs_are _ _ c.eq-in-Variables.result c.eq-in-Variables.ensures)

pub returns-in-ExtraContents : goal.returns-in-ExtraContents
returns-in-ExtraContents c = subst (λ part. Decides c.eq-in-ExtraContents.result (AgreeByC c.args.self.now c.args.other.now part)) (sym c.in-ExtraContents.is) (slice_eq-Decides bytes_are _ _ c.eq-in-ExtraContents.result c.eq-in-ExtraContents.ensures)

pub returns-in-Names : goal.returns-in-Names
returns-in-Names c = subst (λ part. Decides c.eq-in-Names.result (AgreeByC c.args.self.now c.args.other.now part)) (sym c.in-Names.is) (slice_eq-Decides names_are _ _ c.eq-in-Names.result c.eq-in-Names.ensures)
