use Rattle.std.proofs.Common.{◌≡◌, ◌<◌, ◌++◌, List, [], ◌∷◌, Some, None, inr, refl, ap, sym, subst, ◌∙◌, append_assoc, append-nil}
use Rattle.base_files.specs.Bytes.{Bytes}
use Rattle.base_files.specs.Tree.{Tree}
use Rattle.cmdlines_response_files.specs.Asking.{IsAskedFor}
use Rattle.cmdlines_response_files.specs.Causes.{CauseOf}
use Rattle.cmdlines_response_files.specs.Chains.{is_open}
use Rattle.cmdlines_response_files.specs.Closed.{closed_in, without}
use Rattle.cmdlines_response_files.specs.Expansion.{expanded, opened_by}
use Rattle.cmdlines_response_files.specs.Known.{AreTrue, arguments_at}
use Rattle.cmdlines_response_files.specs.Styles.{path_of}
use Rattle.cmdlines_response_files.specs.Unread.{parts_of}
use Rattle.cmdlines_response_files.specs.declared.unread.Part.{Part}
use Rattle.cmdlines_response_files.specs.declared.unread.Part.TheVariants.{Word, End}
use Rattle.cmdlines_response_files.proofs.ClosedLaws.{closed_all}
use Rattle.cmdlines_response_files.proofs.UnreadLaws.{AskFor, ask-file, ask-opens, ask-same, ask-word, asked_alone, become, become-file, become-opens, become-same, become-stays, cause_by, on_exit, parts_in, shut, turns_left, turns_left-opens, turns_left-word}
use Rattle.cmdlines_response_files.proofs.expansion.expand_file.Goals as goal

pub loop-part-init : goal.loop-part-init
loop-part-init g c =
    let tree = g.F.Files.tree c.args.files.now in
    let style = c.args.style in
    let dir = c.args.dir.now in
    let file = c.args.file in
    let held = is_open c.new-chain.result in
    let wider = is_open c.open.new.self in
    let out = c.args.out.now.items in
    let all : closed_in held tree ≡ tree = closed_all held c.new-chain.ensures tree in
    let parts : parts_of c.add.new.self ≡ parts_in file [] = c.in_ok-add.ensures ∙ ap (parts_in file) c.new-unread.ensures in
    record {
      told = ap (λ (l : List Bytes). out ++ l) (ap (become style dir tree wider) parts ∙ become-file style dir tree held wider file [] c.in_ok-open.ensures.opened (c.new-chain.ensures file.name) ∙ append-nil _ ∙ ap (λ (t : Tree). expanded style dir (without file.name t) file.words) all);
      asked = λ name h. asked_alone style dir (closed_in held tree) tree all file name (ask-file style dir tree held wider file [] c.in_ok-open.ensures.opened (c.new-chain.ensures file.name) name (subst (λ (l : List Part). AskFor style dir tree wider l name) parts h));
      known = c.requires;
      tree = refl;
      steady = refl;
    }

pub loop-part-preserved-in-End : goal.loop-part-preserved-in-End
loop-part-preserved-in-End g c =
    let tree = g.F.Files.tree c.args.files.now in
    let style = c.args.style in
    let dir = c.args.dir.now in
    let inv = c.loop-part.invariant in
    let held = is_open c.loop-part.chain in
    let rest = parts_of c.next.new.self in
    let left : parts_of c.loop-part.unread ≡ End c.in-End.name ∷ rest = c.in-Some.ensures ∙ ap (λ (p : Part). p ∷ rest) c.in-End.is in
    record {
      told = ap (λ (l : List Bytes). c.loop-part.out.items ++ l) (become-same style dir tree (is_open c.close.new.self) (shut c.in-End.name held) c.close.ensures rest ∙ ap (become style dir tree held) (sym left)) ∙ inv.told;
      asked = λ name h. inv.asked name (subst (λ (l : List Part). AskFor style dir tree held l name) (sym left) (ask-same style dir tree (is_open c.close.new.self) (shut c.in-End.name held) c.close.ensures rest name h));
      known = inv.known;
      tree = inv.tree;
      steady = inv.steady;
    }

pub returns-in_err-opened_by-in-Word-clause-asked : goal.returns-in_err-opened_by-in-Word-clause-asked
returns-in_err-opened_by-in-Word-clause-asked g c =
    let tree = g.F.Files.tree c.args.files.now in
    let style = c.args.style in
    let dir = c.args.dir.now in
    let held = is_open c.loop-part.chain in
    let rest = parts_of c.next.new.self in
    let left : parts_of c.loop-part.unread ≡ Word c.in-Word.word ∷ rest = c.in-Some.ensures ∙ ap (λ (p : Part). p ∷ rest) c.in-Word.is in
    let asked : Bytes → Type 0 = IsAskedFor style dir (without c.args.file.name tree) c.args.file.words in
    let fault = c.in_err-opened_by-in-Word.field-0.0 in
    on_exit (CauseOf asked) c.from_residual-in_err-opened_by-in-Word.result fault c.from_residual-in_err-opened_by-in-Word.ensures.1
    (cause_by (λ name. path_of style dir c.in-Word.word ≡ Some name) asked (λ name is. c.loop-part.invariant.asked name (subst (λ (l : List Part). AskFor style dir tree held l name) (sym left) (ask-word style dir tree held c.in-Word.word rest name is))) fault c.in_err-opened_by-in-Word.ensures.asked)

pub loop-part-smaller-in-Continue-branch-5 : goal.loop-part-smaller-in-Continue-branch-5
loop-part-smaller-in-Continue-branch-5 g c =
    let tree = g.F.Files.tree c.args.files.now in
    let style = c.args.style in
    let dir = c.args.dir.now in
    let held = is_open c.loop-part.chain in
    let rest = parts_of c.next.new.self in
    let left : parts_of c.loop-part.unread ≡ Word c.in-Word.word ∷ rest = c.in-Some.ensures ∙ ap (λ (p : Part). p ∷ rest) c.in-Word.is in
    subst (λ (l : List Part). turns_left style dir tree held rest < turns_left style dir tree held l) (sym left) (turns_left-word style dir tree held c.in-Word.word rest)

pub loop-part-preserved-in-Continue-branch-5 : goal.loop-part-preserved-in-Continue-branch-5
loop-part-preserved-in-Continue-branch-5 g c =
    let tree = g.F.Files.tree c.args.files.now in
    let style = c.args.style in
    let dir = c.args.dir.now in
    let inv = c.loop-part.invariant in
    let held = is_open c.loop-part.chain in
    let word = c.in-Word.word in
    let rest = parts_of c.next.new.self in
    let out = c.loop-part.out.items in
    let left : parts_of c.loop-part.unread ≡ Word word ∷ rest = c.in-Some.ensures ∙ ap (λ (p : Part). p ∷ rest) c.in-Word.is in
    let nothing : opened_by style dir (closed_in held tree) word ≡ None = ap (λ (t : Tree). opened_by style dir (closed_in held t) word) (sym inv.tree) ∙ sym c.in_ok-opened_by-in-Word.ensures.opened ∙ c.in-None.is in
    let stays : become style dir tree held (parts_of c.loop-part.unread) ≡ word ∷ become style dir tree held rest = ap (become style dir tree held) left ∙ become-stays style dir tree held word rest nothing in
    record {
      told = ap (λ (l : List Bytes). l ++ become style dir tree held rest) c.in_ok-push-in-None.ensures.items ∙ append_assoc out (word ∷ []) (become style dir tree held rest) ∙ ap (λ (l : List Bytes). out ++ l) (sym stays) ∙ inv.told;
      asked = λ name h. inv.asked name (subst (λ (l : List Part). AskFor style dir tree held l name) (sym left) (inr h));
      known = subst (λ (t : Tree). AreTrue c.opened_by.new.known (arguments_at style t)) inv.tree c.in_ok-opened_by-in-Word.ensures.known;
      tree = c.in_ok-opened_by-in-Word.ensures.tree ∙ inv.tree;
      steady = c.in_ok-opened_by-in-Word.ensures.steady ∙ inv.steady;
    }

pub loop-part-smaller : goal.loop-part-smaller
loop-part-smaller g c =
    let tree = g.F.Files.tree c.args.files.now in
    let style = c.args.style in
    let dir = c.args.dir.now in
    let inv = c.loop-part.invariant in
    let held = is_open c.loop-part.chain in
    let wider = is_open c.open-in-Some-2.new.self in
    let word = c.in-Word.word in
    let file = c.in-Some-2.found in
    let rest = parts_of c.next.new.self in
    let left : parts_of c.loop-part.unread ≡ Word word ∷ rest = c.in-Some.ensures ∙ ap (λ (p : Part). p ∷ rest) c.in-Word.is in
    let opens : opened_by style dir (closed_in held tree) word ≡ Some file = ap (λ (t : Tree). opened_by style dir (closed_in held t) word) (sym inv.tree) ∙ sym c.in_ok-opened_by-in-Word.ensures.opened ∙ c.in-Some-2.is in
    subst (λ (l : List Part). turns_left style dir tree wider l < turns_left style dir tree held (parts_of c.loop-part.unread)) (sym c.in_ok-add-in-Some-2.ensures)
    (subst (λ (l : List Part). turns_left style dir tree wider (parts_in file rest) < turns_left style dir tree held l) (sym left) (turns_left-opens style dir tree held wider word file rest c.in_ok-open-in-Some-2.ensures.opened opens))

pub loop-part-preserved : goal.loop-part-preserved
loop-part-preserved g c =
    let tree = g.F.Files.tree c.args.files.now in
    let style = c.args.style in
    let dir = c.args.dir.now in
    let inv = c.loop-part.invariant in
    let held = is_open c.loop-part.chain in
    let wider = is_open c.open-in-Some-2.new.self in
    let word = c.in-Word.word in
    let file = c.in-Some-2.found in
    let rest = parts_of c.next.new.self in
    let added : parts_of c.add-in-Some-2.new.self ≡ parts_in file rest = c.in_ok-add-in-Some-2.ensures in
    let left : parts_of c.loop-part.unread ≡ Word word ∷ rest = c.in-Some.ensures ∙ ap (λ (p : Part). p ∷ rest) c.in-Word.is in
    let opens : opened_by style dir (closed_in held tree) word ≡ Some file = ap (λ (t : Tree). opened_by style dir (closed_in held t) word) (sym inv.tree) ∙ sym c.in_ok-opened_by-in-Word.ensures.opened ∙ c.in-Some-2.is in
    record {
      told = ap (λ (l : List Bytes). c.loop-part.out.items ++ l) (ap (become style dir tree wider) added ∙ become-opens style dir tree held wider word file rest c.in_ok-open-in-Some-2.ensures.opened opens ∙ ap (become style dir tree held) (sym left)) ∙ inv.told;
      asked = λ name h. inv.asked name (subst (λ (l : List Part). AskFor style dir tree held l name) (sym left) (ask-opens style dir tree held wider word file rest c.in_ok-open-in-Some-2.ensures.opened opens name (subst (λ (l : List Part). AskFor style dir tree wider l name) added h)));
      known = subst (λ (t : Tree). AreTrue c.opened_by.new.known (arguments_at style t)) inv.tree c.in_ok-opened_by-in-Word.ensures.known;
      tree = c.in_ok-opened_by-in-Word.ensures.tree ∙ inv.tree;
      steady = c.in_ok-opened_by-in-Word.ensures.steady ∙ inv.steady;
    }

pub returns-clause-words : goal.returns-clause-words
returns-clause-words g c =
    let tree = g.F.Files.tree c.args.files.now in
    let ended = ap (become c.args.style c.args.dir.now tree (is_open c.loop-part.chain)) c.in_default.ensures in
    sym (append-nil c.loop-part.out.items) ∙ ap (λ (l : List Bytes). c.loop-part.out.items ++ l) (sym ended) ∙ c.loop-part.invariant.told
