use Rattle.std.proofs.Common.{◌≡◌, ◌∷◌, ◌∙◌, List, map, ap, sym, subst, arith, rules}
use Rattle.std.specs.List.{Contains}
use Rattle.std.proofs.lemmas.Grind.{common_steps}
use Rattle.base_files.specs.Bytes.{Bytes}
use Rattle.base_files.specs.Path.{join}
use Rattle.rustkeys_base.specs.Requests.{library_names, library_paths}
use Rattle.rustkeys_base.proofs.AskedLemmas.{exit_by, first_gives, later_gives}
use Rattle.rustkeys_base.proofs.libraries.library_in.Goals as goal

pub returns-in_err-path-clause-asked : goal.returns-in_err-path-clause-asked
returns-in_err-path-clause-asked g c =
    let folders = c.args.folders.now in
    let name = c.args.name.now in
    let folder = c.in-Some.folder.now in
    let more = c.in-Some.more.now in
    let split : c.loop-folder.rest.now ≡ folder ∷ more = c.in-Some.ensures.cases.0 in
    let paths : c.as_slice-in-Some.result.now ≡ map (join folder) (library_names name) = c.as_slice-in-Some.ensures ∙ c.in_ok-paths.ensures ∙ ap (map (join folder)) (c.as_slice.ensures ∙ c.in_ok-names.ensures) in
    exit_by (Contains c.as_slice-in-Some.result.now) (Contains (library_paths folders name))
    (λ path h. c.loop-folder.invariant.within path (subst (λ (l : List Bytes). Contains (library_paths l name) path) (sym split) (first_gives (λ f. map (join f) (library_names name)) folder more path (subst (λ (l : List Bytes). Contains l path) paths h))))
    c.from_residual-in_err-path.result c.in_err-path.field-0.0 c.from_residual-in_err-path.ensures.1 c.in_err-path.ensures.asked

pub loop-folder-preserved : goal.loop-folder-preserved
loop-folder-preserved g c =
    let inv = c.loop-folder.invariant in
    let name = c.args.name.now in
    let folder = c.in-Some.folder.now in
    let more = c.in-Some.more.now in
    let split : c.loop-folder.rest.now ≡ folder ∷ more = c.in-Some.ensures.cases.0 in
    record {
      within = λ path h. inv.within path (subst (λ (l : List Bytes). Contains (library_paths l name) path) (sym split) (later_gives (λ f. map (join f) (library_names name)) folder more path h));
      first = first_of (search rules, grind (arith, common_steps));
      tree = c.in_ok-path.ensures.tree ∙ inv.tree;
      steady = c.in_ok-path.ensures.steady ∙ inv.steady;
    }
