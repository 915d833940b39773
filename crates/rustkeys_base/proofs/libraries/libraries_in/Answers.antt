use Rattle.std.proofs.Common.{◌≡◌, ◌∷◌, ◌∙◌, List, sym, subst, arith, rules}
use Rattle.std.specs.List.{Contains, flat_map}
use Rattle.std.proofs.lemmas.Grind.{common_steps}
use Rattle.base_files.specs.Bytes.{Bytes}
use Rattle.rustkeys_base.specs.Requests.{library_paths}
use Rattle.rustkeys_base.proofs.AskedLemmas.{exit_by, first_gives, later_gives}
use Rattle.rustkeys_base.proofs.libraries.libraries_in.Goals as goal

pub returns-in_err-path-clause-asked : goal.returns-in_err-path-clause-asked
returns-in_err-path-clause-asked g c =
    let paths = library_paths c.args.folders.now in
    let name = c.in-Some.name.now in
    let more = c.in-Some.more.now in
    let split : c.loop-name.rest.now ≡ name ∷ more = c.in-Some.ensures.cases.0 in
    exit_by (Contains (paths name)) (Contains (flat_map paths c.args.names.now))
    (λ path h. c.loop-name.invariant.within path (subst (λ (l : List Bytes). Contains (flat_map paths l) path) (sym split) (first_gives paths name more path h)))
    c.from_residual.result c.in_err-path.field-0.0 c.from_residual.ensures.1 c.in_err-path.ensures.asked

pub loop-name-preserved-in_ok-push : goal.loop-name-preserved-in_ok-push
loop-name-preserved-in_ok-push g c =
    let inv = c.loop-name.invariant in
    let paths = library_paths c.args.folders.now in
    let name = c.in-Some.name.now in
    let more = c.in-Some.more.now in
    let split : c.loop-name.rest.now ≡ name ∷ more = c.in-Some.ensures.cases.0 in
    record {
      within = λ path h. inv.within path (subst (λ (l : List Bytes). Contains (flat_map paths l) path) (sym split) (later_gives paths name more path h));
      found = first_of (search rules, grind (arith, common_steps));
      tree = c.in_ok-path.ensures.tree ∙ inv.tree;
      steady = c.in_ok-path.ensures.steady ∙ inv.steady;
    }

pub loop-name-preserved : goal.loop-name-preserved
loop-name-preserved g c =
    let inv = c.loop-name.invariant in
    let paths = library_paths c.args.folders.now in
    let name = c.in-Some.name.now in
    let more = c.in-Some.more.now in
    let split : c.loop-name.rest.now ≡ name ∷ more = c.in-Some.ensures.cases.0 in
    record {
      within = λ path h. inv.within path (subst (λ (l : List Bytes). Contains (flat_map paths l) path) (sym split) (later_gives paths name more path h));
      found = first_of (search rules, grind (arith, common_steps));
      tree = c.in_ok-path.ensures.tree ∙ inv.tree;
      steady = c.in_ok-path.ensures.steady ∙ inv.steady;
    }
