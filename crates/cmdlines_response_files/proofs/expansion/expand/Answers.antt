use Rattle.std.proofs.Common.{rules, refl, ◌≡◌, ◌++◌, ◌<◌, ◌+◌, List, [], ◌∷◌, Some, length, drop, drop-cons, add-one, suc, ap, sym, subst, ◌∙◌, arith, append-nil}
use Rattle.std.specs.List.{Contains}
use Rattle.std.specs.declared.alloc.Global.{Global}
use Rattle.std.specs.declared.vec.Vec.{Vec}
use Rattle.std.proofs.lemmas.List.{drop_all}
use Rattle.std.proofs.lemmas.List.Elements.{Contains-get_or}
use Rattle.base_files.specs.Bytes.{Bytes}
use Rattle.base_files.specs.Tree.{Tree}
use Rattle.cmdlines_response_files.specs.Asking.{IsAskedFor, by_word, in_file}
use Rattle.cmdlines_response_files.specs.Causes.{CauseOf}
use Rattle.cmdlines_response_files.specs.Chains.{is_open}
use Rattle.cmdlines_response_files.specs.Closed.{closed_in, without}
use Rattle.cmdlines_response_files.specs.Expansion.{expanded, opened_by}
use Rattle.cmdlines_response_files.specs.Known.{AreTrue, arguments_at}
use Rattle.cmdlines_response_files.specs.Styles.{path_of}
use Rattle.cmdlines_response_files.specs.declared.known.KnownFiles.{KnownFiles}
use Rattle.cmdlines_response_files.proofs.ClosedLaws.{closed_all}
use Rattle.cmdlines_response_files.proofs.OpeningLaws.{expanded-nil, kept_word, opened_word}
use Rattle.cmdlines_response_files.proofs.UnreadLaws.{cause_by, on_exit}
use Rattle.cmdlines_response_files.proofs.expansion.expand.Goals as goal
use Rattle.cmdlines_response_files.proofs.expansion.expand.Goals.{in-None+in_ok-clone-in-None+in_ok-push-in-None, in-Some+in_ok-expand_file-in-Some}

pub returns-in_err-opened_by-clause-asked : goal.returns-in_err-opened_by-clause-asked
returns-in_err-opened_by-clause-asked g c =
    let style = c.args.style in
    let dir = c.args.dir.now in
    let words = c.args.words.now in
    let i = c.loop-word.word-index in
    let word = c.word-item.result in
    let lt : i < length words = omega arith in
    let among : Contains words word = subst (Contains words) (sym c.word-item.is) (Contains-get_or words i word lt) in
    let asked : Bytes → Type 0 = IsAskedFor style dir (g.F.Files.tree c.args.files.now) words in
    let fault = c.in_err-opened_by.field-0.0 in
    on_exit (CauseOf asked) c.from_residual.result fault c.from_residual.ensures.1
    (cause_by (λ name. path_of style dir word ≡ Some name) asked (λ name is. by_word {word = word} among is) fault c.in_err-opened_by.ensures.asked)

pub returns-in_err-expand_file-in-Some-clause-asked : goal.returns-in_err-expand_file-in-Some-clause-asked
returns-in_err-expand_file-in-Some-clause-asked g c =
    let tree = g.F.Files.tree c.args.files.now in
    let style = c.args.style in
    let dir = c.args.dir.now in
    let words = c.args.words.now in
    let i = c.loop-word.word-index in
    let word = c.word-item.result in
    let file = c.in-Some.file in
    let held = is_open c.new-none.result in
    let lt : i < length words = omega arith in
    let among : Contains words word = subst (Contains words) (sym c.word-item.is) (Contains-get_or words i word lt) in
    let at : closed_in held (g.F.Files.tree c.loop-word.files) ≡ tree = closed_all held c.new-none.ensures (g.F.Files.tree c.loop-word.files) ∙ c.loop-word.invariant.tree in
    let opens : opened_by style dir tree word ≡ Some file = ap (λ (t : Tree). opened_by style dir t word) (sym at) ∙ sym c.in_ok-opened_by.ensures.opened ∙ c.in-Some.is in
    let later : g.F.Files.tree c.opened_by.new.files ≡ tree = c.in_ok-opened_by.ensures.tree ∙ c.loop-word.invariant.tree in
    let asked : Bytes → Type 0 = IsAskedFor style dir tree words in
    let fault = c.in_err-expand_file-in-Some.field-0.0 in
    on_exit (CauseOf asked) c.from_residual-in_err-expand_file-in-Some.result fault c.from_residual-in_err-expand_file-in-Some.ensures.1
    (cause_by (IsAskedFor style dir (without file.name (g.F.Files.tree c.opened_by.new.files)) file.words) asked
    (λ name h. in_file {word = word} {opened = file} among opens (subst (λ (t : Tree). IsAskedFor style dir (without file.name t) file.words name) later h))
    fault c.in_err-expand_file-in-Some.ensures.asked)

pub loop-word-init : goal.loop-word-init
loop-word-init g c = record { told = search rules; known = c.new-known.ensures (arguments_at c.args.style (g.F.Files.tree c.args.files.now)); tree = refl; steady = refl }

pub loop-word-preserved : goal.loop-word-preserved
loop-word-preserved g c =
    let tree = g.F.Files.tree c.args.files.now in
    let inv = c.loop-word.invariant in
    let style = c.args.style in
    let dir = c.args.dir.now in
    let words = c.args.words.now in
    let i = c.loop-word.word-index in
    let word = c.word-item.result in
    let so_far = c.loop-word.out.items in
    let held = is_open c.new-none.result in
    let lt : i < length words = omega arith in
    let left : drop i words ≡ word ∷ drop (i + 1) words = drop-cons words i word lt ∙ ap (λ (x : Bytes). x ∷ drop (suc i) words) (sym c.word-item.is) ∙ ap (λ n. word ∷ drop n words) (sym (add-one i)) in
    let before = ap (λ (l : List Bytes). so_far ++ expanded style dir tree l) (sym left) ∙ inv.told in
    let at : closed_in held (g.F.Files.tree c.loop-word.files) ≡ tree = closed_all held c.new-none.ensures (g.F.Files.tree c.loop-word.files) ∙ inv.tree in
    let found : opened_by style dir tree word ≡ c.in_ok-opened_by.field-0 = ap (λ (t : Tree). opened_by style dir t word) (sym at) ∙ sym c.in_ok-opened_by.ensures.opened in
    let later : g.F.Files.tree c.opened_by.new.files ≡ tree = c.in_ok-opened_by.ensures.tree ∙ inv.tree in
    elim c.match-branch-2.branch [
      | in-None+in_ok-clone-in-None+in_ok-push-in-None w ↦
          let copy : w.in_ok-clone-in-None.field-0 ≡ word = w.in_ok-clone-in-None.ensures.cases in
          let out : c.match-branch-2.out.items ≡ so_far ++ word ∷ [] = cc (w.in_ok-push-in-None.ensures.items, copy, w.out-is) in
          record {
            told = ap (λ (l : List Bytes). l ++ expanded style dir tree (drop (i + 1) words)) out ∙ kept_word style dir tree word (drop (i + 1) words) so_far (found ∙ w.in-None.is) ∙ before;
            known = subst (λ (t : Tree). AreTrue c.match-branch-2.known (arguments_at style t)) inv.tree (subst (λ (k : KnownFiles). AreTrue k (arguments_at style (g.F.Files.tree c.loop-word.files))) (sym w.known-is) c.in_ok-opened_by.ensures.known);
            tree = ap g.F.Files.tree w.files-is ∙ later;
            steady = ap g.F.Files.failed w.files-is ∙ c.in_ok-opened_by.ensures.steady ∙ inv.steady;
          }
      | in-Some+in_ok-expand_file-in-Some w ↦
          let file = w.in-Some.file in
          let out : c.match-branch-2.out.items ≡ so_far ++ expanded style dir (without file.name tree) file.words = ap (λ (v : Vec Bytes Global). v.items) w.out-is ∙ w.in_ok-expand_file-in-Some.ensures.words ∙ ap (λ (t : Tree). so_far ++ expanded style dir (without file.name t) file.words) later in
          record {
            told = ap (λ (l : List Bytes). l ++ expanded style dir tree (drop (i + 1) words)) out ∙ opened_word style dir tree word (drop (i + 1) words) so_far file (found ∙ w.in-Some.is) ∙ before;
            known = subst (λ (t : Tree). AreTrue c.match-branch-2.known (arguments_at style t)) later (subst (λ (k : KnownFiles). AreTrue k (arguments_at style (g.F.Files.tree c.opened_by.new.files))) (sym w.known-is) w.in_ok-expand_file-in-Some.ensures.known);
            tree = ap g.F.Files.tree w.files-is ∙ w.in_ok-expand_file-in-Some.ensures.tree ∙ later;
            steady = ap g.F.Files.failed w.files-is ∙ w.in_ok-expand_file-in-Some.ensures.steady ∙ c.in_ok-opened_by.ensures.steady ∙ inv.steady;
          }
    ]

pub returns-clause-words : goal.returns-clause-words
returns-clause-words g c =
    let become = expanded c.args.style c.args.dir.now (g.F.Files.tree c.args.files.now) in
    let none : drop c.loop-word.word-index c.args.words.now ≡ [] = drop_all c.loop-word.word-index c.args.words.now (omega arith) in
    c.from_vec.ensures
    ∙ sym (append-nil c.loop-word.out.items)
    ∙ ap (λ (l : List Bytes). c.loop-word.out.items ++ l) (sym (ap become none ∙ expanded-nil c.args.style c.args.dir.now (g.F.Files.tree c.args.files.now)))
    ∙ c.loop-word.invariant.told
