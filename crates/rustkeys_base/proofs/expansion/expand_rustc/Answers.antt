use Rattle.std.proofs.Common.{rules, refl, ◌≡◌, ◌<◌, ◌++◌, ◌∷◌, [], List, Option, Some, length, sym, ap, subst, ◌∙◌, arith}
use Rattle.std.specs.List.{Contains}
use Rattle.std.specs.Option.{unwrap_or}
use Rattle.std.proofs.lemmas.List.Elements.{Contains-get_or}
use Rattle.base_files.specs.Tree.{Tree}
use Rattle.cmdlines_response_files.specs.Known.{AreTrue}
use Rattle.rustkeys_base.specs.Asking.{IsNamedIn}
use Rattle.base_files.specs.Bytes.{Bytes}
use Rattle.rustkeys_base.specs.Expansion.{in_place_of, opened_by, path_of, words_in}
use Rattle.rustkeys_base.proofs.StayLaws.{expanded_more}
use Rattle.rustkeys_base.proofs.AskedLemmas.{exit_by}
use Rattle.rustkeys_base.proofs.expansion.expand_rustc.Goals as goal
use Rattle.rustkeys_base.proofs.expansion.expand_rustc.Goals.{in-Some+in_ok-append-in-Some, in-None+in_ok-clone-in-None+in_ok-push-in-None}

pub returns-in_err-lines-clause-asked : goal.returns-in_err-lines-clause-asked
returns-in_err-lines-clause-asked g c =
    let dir = c.args.dir.now in
    let words = c.args.words.now in
    let i = c.loop-word.word-index in
    let word = c.word-item.result in
    let lt : i < length words = omega arith in
    let among : Contains words word = subst (Contains words) (sym c.word-item.is) (Contains-get_or words i word lt) in
    exit_by (λ name. path_of dir word ≡ Some name) (IsNamedIn dir words) (λ name is. (word, among, is))
    c.from_residual.result c.in_err-lines.field-0.0 c.from_residual.ensures.1 c.in_err-lines.ensures.asked

pub loop-word-init : goal.loop-word-init
loop-word-init g c = record { told = search rules; known = c.new-known.ensures (words_in (g.F.Files.tree c.args.files.now)); tree = refl; steady = refl }

pub loop-word-preserved : goal.loop-word-preserved
loop-word-preserved g c =
    let inv = c.loop-word.invariant in
    let dir = c.args.dir.now in
    let tree = g.F.Files.tree c.args.files.now in
    let words = c.args.words.now in
    let i = c.loop-word.word-index in
    let word = c.word-item.result in
    let so_far = c.loop-word.out.items in
    let lt : i < length words = omega arith in
    let opened : c.in_ok-lines.field-0 ≡ opened_by dir tree word = c.in_ok-lines.ensures.opened ∙ ap (λ (t : Tree). opened_by dir t word) inv.tree in
    let pushed : c.match-branch-2.out.items ≡ so_far ++ in_place_of dir tree word = elim c.match-branch-2.branch [
      | in-Some+in_ok-append-in-Some w ↦
          let out : c.match-branch-2.out.items ≡ so_far ++ w.in-Some.lines = cc (w.in_ok-append-in-Some.ensures.items, w.into_vec.ensures, w.out-is) in
          out ∙ ap (λ (o : Option (List Bytes)). so_far ++ unwrap_or o (word ∷ [])) (sym w.in-Some.is ∙ opened)
      | in-None+in_ok-clone-in-None+in_ok-push-in-None w ↦
          let copy : w.in_ok-clone-in-None.field-0 ≡ word = w.in_ok-clone-in-None.ensures.cases in
          let out : c.match-branch-2.out.items ≡ so_far ++ word ∷ [] = cc (w.in_ok-push-in-None.ensures.items, copy, w.out-is) in
          out ∙ ap (λ (o : Option (List Bytes)). so_far ++ unwrap_or o (word ∷ [])) (sym w.in-None.is ∙ opened)
    ] in
    record {
      told = pushed ∙ ap (λ (l : List Bytes). l ++ in_place_of dir tree word) inv.told ∙ sym (expanded_more dir tree words i word lt c.word-item.is);
      known = subst (λ (t : Tree). AreTrue c.opened_by.new.known (words_in t)) inv.tree c.in_ok-lines.ensures.known;
      tree = c.in_ok-lines.ensures.tree ∙ inv.tree;
      steady = c.in_ok-lines.ensures.steady ∙ inv.steady;
    }
