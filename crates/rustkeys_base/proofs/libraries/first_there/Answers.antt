use Rattle.std.proofs.Common.{◌≡◌, ◌∷◌, ◌∙◌, List, sym, subst, arith, rules}
use Rattle.std.specs.List.{Contains}
use Rattle.std.proofs.lemmas.Grind.{common_steps}
use Rattle.base_files.specs.Bytes.{Bytes}
use Rattle.rustkeys_base.proofs.AskedLemmas.{later_in}
use Rattle.rustkeys_base.proofs.libraries.first_there.Goals as goal

pub loop-path-preserved : goal.loop-path-preserved
loop-path-preserved g c =
    let inv = c.loop-path.invariant in
    let path = c.in-Some.path.now in
    let more = c.in-Some.more.now in
    let split : c.loop-path.rest.now ≡ path ∷ more = c.in-Some.ensures.cases.0 in
    record {
      within = λ name h. inv.within name (subst (λ (l : List Bytes). Contains l name) (sym split) (later_in path more name h));
      first = first_of (search rules, grind (arith, common_steps));
      tree = c.in_ok-exists.ensures.tree ∙ inv.tree;
      steady = c.in_ok-exists.ensures.steady ∙ inv.steady;
    }
