use Rattle.std.proofs.Common.{subst, sym}
use Rattle.std.specs.Bool.{Decides}
use Rattle.std.proofs.lemmas.Slice.Eq.{slice_eq-Decides}
use Rattle.wrap_fingerprints.specs.Explaining.{AgreeIn}
use Rattle.wrap_fingerprints.specs.declared.fingerprint.Fingerprint.{Fingerprint}
use Rattle.wrap_fingerprints.specs.declared.part.Part.{Part}
use Rattle.wrap_fingerprints.proofs.EqualLemmas.{names_are}
use Rattle.wrap_fingerprints.proofs.explain.agree_in.Goals as goal

pub returns-in-Names : goal.returns-in-Names
returns-in-Names c =
    let at : Fingerprint × (Fingerprint × Part) → Type 0 = λ x. Decides c.eq.result (AgreeIn x.0 x.1.0 x.1.1) in
    subst at (λ i. (sym c.in-Rustc-Rustc.is-0 i, (sym c.in-Rustc-Rustc.is-1 i, sym c.in-Names.is i))) (slice_eq-Decides names_are _ _ c.eq.result c.eq.ensures)
