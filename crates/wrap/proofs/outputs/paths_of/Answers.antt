use Rattle.std.proofs.Common.{rules, ◌≡◌, [], ◌∷◌, ◌++◌, ◌∙◌, ap, nat_cmp}
use Rattle.std.specs.Prelude.{cond, Some}
use Rattle.std.specs.BTreeMap.{get}
use Rattle.std.specs.Cmp.Lexicographic.{slice_cmp}
use Rattle.std.specs.Ordering.{is_eq}
use Rattle.std.specs.Str.{bytes_eq}
use Rattle.std.proofs.lemmas.List.{append_assoc}
use Rattle.std.proofs.lemmas.Map.Text.{is_eq-slice_cmp}
use Rattle.base_files.specs.Bytes.{Bytes}
use Rattle.wrap_keys.specs.Account.{path_of}
use Rattle.wrap.specs.PathMap.{path_found}
use Rattle.wrap.proofs.PathLemmas.{path-cond}
use Rattle.wrap.proofs.outputs.paths_of.Goals as goal

pub loop-name-preserved : goal.loop-name-preserved
loop-name-preserved c =
    let (taken, split, has) = c.loop-name.invariant in
    let output = c.in-Some.field-0-0.now in
    let path = c.as_bytes.result in
    let before = get (slice_cmp nat_cmp) c.loop-name.paths in
    let cut : c.loop-name.rest.now ≡ c.in-Some.before.now ++ output ∷ [] = search rules in
    let key : c.in_ok-clone.field-0 ≡ output.0 = search rules in
    let held : path.now ≡ output.1.path = search rules in (
      output ∷ taken,
      split ∙ ap (λ l. l ++ taken) cut ∙ append_assoc c.in-Some.before.now (output ∷ []) taken,
      λ other.
          ap path_found (c.in_ok-insert.ensures.updates.0 other)
          ∙ ap (λ (name : Bytes). path_found (cond (is_eq (slice_cmp nat_cmp name other)) (Some path) (before other))) key
          ∙ ap (λ b. path_found (cond b (Some path) (before other))) (is_eq-slice_cmp output.0 other)
          ∙ path-cond (bytes_eq output.0 other) path (before other) output.1.path (path_of taken other) held (has other),
    )
