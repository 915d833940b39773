use Rattle.std.proofs.Common.{◌≡◌, ◌+◌, ◌∷◌, ◌++◌, drop, List, Some, sym, ap, subst, ◌∙◌, arith}
use Rattle.std.specs.Option.{option_map}
use Rattle.std.proofs.lemmas.List.{drop_more}
use Rattle.base_files.specs.Bytes.{Bytes}
use Rattle.base_files.specs.Tree.{Tree}
use Rattle.ckeys_include_records.specs.Surroundings.{includes_of, place_with}
use Rattle.ckeys_include_records.specs.declared.entry.IncludeEntry.{IncludeEntry}
use Rattle.ckeys_include_records.proofs.Looking.{Recorded, includes_of-goes_on}
use Rattle.ckeys_include_records.proofs.includes.includes_on.Goals as goal

pub loop-name-preserved : goal.loop-name-preserved
loop-name-preserved g c =
    let digest_of = g.H.HashState.digest_of in
    let inv = c.loop-name.invariant in
    let place = place_with c.args.dir.now (g.F.Files.tree c.args.files.now) c.args.day in
    let rest = drop (c.loop-name.name-index + 1) c.args.names.now in
    let left : drop c.loop-name.name-index c.args.names.now ≡ c.name-item.result ∷ rest =
    drop_more c.args.names.now c.loop-name.name-index c.name-item.result (omega arith) ∙ ap (λ (x : Bytes). x ∷ rest) (sym c.name-item.is) in
    let recorded : Recorded digest_of place c.name-item.result rest (Some c.in-Some.include) =
    subst (λ (tree : Tree). Recorded digest_of (place_with c.args.dir.now tree c.args.day) c.name-item.result rest (Some c.in-Some.include)) inv.tree (sym c.in-Some.is ∙ c.in_ok-include.ensures.include) in
    record {
      told = ap (λ (l : List IncludeEntry). option_map (λ (more : List IncludeEntry). l ++ more) (includes_of place digest_of rest)) c.in_ok-push.ensures.added
          ∙ includes_of-goes_on digest_of place c.name-item.result rest c.loop-name.list c.in-Some.include recorded
          ∙ ap (λ (names : List Bytes). option_map (λ (more : List IncludeEntry). c.loop-name.list ++ more) (includes_of place digest_of names)) (sym left)
          ∙ inv.told;
      tree = c.include_of.ensures.tree ∙ inv.tree;
      steady = c.in_ok-include.ensures.steady ∙ inv.steady;
    }
