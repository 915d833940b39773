use Rattle.std.proofs.Common.{◌≡◌, ◌∙◌, List, map, ap, subst}
use Rattle.std.specs.List.{Contains, flat_map}
use Rattle.std.proofs.lemmas.Result.{IfErr-weaker}
use Rattle.base_files.specs.Bytes.{Bytes}
use Rattle.base_files.specs.Path.{join}
use Rattle.rustkeys_base.specs.Asking.{library_places}
use Rattle.rustkeys_base.specs.Requests.{library_paths}
use Rattle.rustkeys_base.proofs.AskedLemmas.{cause_by}
use Rattle.rustkeys_base.proofs.closing.libraries_for.Goals as goal

pub returns-clause-names : goal.returns-clause-names
returns-clause-names g c =
    let dir = c.args.dir.now in
    let facts = c.args.facts.now in
    let given = c.as_slice-2.result.now in
    let asked = c.as_slice-names.result.now in
    let folders : given ≡ map (join dir) facts.static_paths = c.as_slice-2.ensures ∙ c.in_ok-folders.ensures ∙ ap (map (join dir)) c.as_slice.ensures in
    let names : asked ≡ facts.static_libraries = c.as_slice-names.ensures in
    let places : flat_map (library_paths given) asked ≡ library_places dir facts = λ i. flat_map (library_paths (folders i)) (names i) in
    IfErr-weaker c.libraries_in.result _ _
    (cause_by (Contains (flat_map (library_paths given) asked)) (Contains (library_places dir facts)) (λ name h. subst (λ (l : List Bytes). Contains l name) places h))
    c.libraries_in.ensures.asked
