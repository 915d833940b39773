use Rattle.std.proofs.Common.{◌≡◌, ◌∙◌, add-one, ap, sym, subst, ℕ, ◌+◌, List, [], ◌∷◌, ◌++◌, Bor, drop, get_or, if◌then◌else◌}
use Rattle.std.proofs.Math.Seq.{drop-cons}
use Rattle.sccache_recorded_builds.specs.Beware.{AreOnce, is_among}
use Rattle.sccache_recorded_builds.specs.Tallies.{numbers_in}
use Rattle.sccache_recorded_builds.proofs.Texts.{rest_noted}
use Rattle.sccache_recorded_builds.proofs.tally.Tally.note_each.Goals as goal

pub loop-name-preserved : goal.loop-name-preserved
loop-name-preserved c =
    let none : Bor (List ℕ) = record { ref_ptr = (0, 0); now = [] } in
    let names = c.args.names.now in
    let index = c.loop-name.name-index in
    let here = get_or names index none in
    let more = drop (index + 1) names in
    let split : drop index names ≡ here ∷ more =
    drop-cons names index none c.loop-name-test.true
    ∙ ap (λ (k : ℕ). here ∷ drop k names) (sym (add-one index)) in
    let once : AreOnce (here ∷ more) = subst AreOnce split c.loop-name.invariant.once in
    record {
      once = once.1;
      noted = λ other.
          let before = numbers_in c.loop-name.self other in
          ap
          (λ (numbers : List ℕ). numbers ++ (if is_among other more then c.args.number ∷ [] else []))
          (c.in_ok-note_text.ensures other)
          ∙ rest_noted here more once before c.args.number other
          ∙ subst
          (λ (texts : List (Bor (List ℕ))).
          before ++ (if is_among other texts then c.args.number ∷ [] else [])
          ≡ numbers_in c.args.self.now other
          ++ (if is_among other names then c.args.number ∷ [] else []))
          split (c.loop-name.invariant.noted other);
    }
