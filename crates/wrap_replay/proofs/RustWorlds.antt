-- From recorded answers of rustc to a world that gives them.
use Rattle.std.proofs.Common.{◌≡◌, ℕ, pos, Bool, true, false, not, ◌&&◌, List, [], ◌∷◌, ◌++◌, map, Option, None, Some, Result, Ok, Err, inl, inr, refl, sym, ap, subst, ◌∙◌, if◌then◌else◌}
use Rattle.std.specs.List.{Contains, find}
use Rattle.std.specs.Option.{option_map}
use Rattle.std.specs.Str.{bytes_eq}
use Rattle.std.proofs.lemmas.Bool.{and_parts}
use Rattle.std.proofs.lemmas.List.Elements.{Contains-append_left, Contains-push}
use Rattle.base_files.specs.Bytes.{Bytes}
use Rattle.base_files.specs.Tree.{Tree}
use Rattle.ckeys_records.specs.Faults.{or_else, preprocess_fault_of}
use Rattle.ckeys_records.specs.Meaning.{Asked, Made, Meaning, archive, names_of, text_in, words}
use Rattle.ckeys_records.specs.declared.fault.Fault.{Fault}
use Rattle.ckeys_records.specs.declared.fault.Fault.TheVariants.{BadDigest}
use Rattle.ckeys_records.specs.declared.output_name.OutputName.{OutputName}
use Rattle.ckeys_records.specs.declared.step.Step.{Step}
use Rattle.ckeys_records.specs.declared.step.Step.TheVariants.{Compile, DepInfo, FileNames, ArchiveDigest}
use Rattle.cmdlines_base.specs.Artifacts.{Artifacts}
use Rattle.rustc_compiler.specs.Compiler.{Rustc}
use Rattle.rustc_parts.specs.Formed.{digest_digits, is_digest}
use Rattle.rustc_options.specs.Asks.{RustAsks}
use Rattle.rustc_texts.specs.Outputs.{output_names, outputs_of}
use Rattle.rustc_texts.specs.Words.{compile_words, dep_info_words, file_names_words}
use Rattle.rustkeys.specs.Calls.{RustCall, answer_fault_of, dep_info_fault_of, digest_fault_of, files_fault_of, key_fault_of, key_fault_with, optional_files_fault_of, record_with, sources_fault_of, utf8_fault_of}
use Rattle.ckeys_records.specs.Faults.{read_fault_of}
use Rattle.rustkeys.specs.Fresh.{call_outputs, dep_info_by}
use Rattle.rustkeys.specs.Questions.{Answers, Question, answers_of, dep_info_of, digested, extern_paths, file_names_of}
use Rattle.ckeys.specs.Entries.{Held}
use Rattle.rustkeys.specs.Records.{RustRecord}
use Rattle.wrap.specs.Account.{Account, worked, Work, Pairs, IsSuccess, collected, placed, rust_account_by, rust_call_at, rust_work_at, scene_at}
use Rattle.wrap.specs.Answers as answers
use Rattle.wrap.specs.Answers.{GoesOn, SaysBy}
use Rattle.wrap.specs.Asking.{AskedTurn, MatchesFor, Shelves, WorkKeyFrom}
use Rattle.wrap.specs.CallRecords.{IsTold, key_of, of_rustc, record_shape}
use Rattle.wrap.specs.RustVerdicts.{RustJudgement, passes, asks}
use Rattle.wrap.specs.StoreKeys.{HasRecord, Invariant, IsOf, Premises, store_key_of, store_key_with}
use Rattle.wrap_base.specs.declared.answer.Answer.{Answer}
use Rattle.wrap_base.specs.declared.answer.Answer.TheVariants.{Pass, Outputs}
use Rattle.wrap_base.specs.declared.answer.How.TheVariants.{Direct, Stored, Fresh}
use Rattle.wrap_base.specs.declared.request.Request.{Request}
use Rattle.wrap_base.specs.declared.store_key.Family.TheVariants as families
use Rattle.wrap_replay.specs.Beside.{TellsOwnDependencies}
use Rattle.wrap_replay_base.specs.Recorded.{crate_for, crate_of, handed_as, handed_in, library_digest, made_as, on_dependencies, on_names, printed_as, recorded, told_for}
use Rattle.wrap_replay_base.specs.SameAsked.{same_asked, same_list, same_name}
use Rattle.wrap_replay.specs.Worlds.{GivesOfRustc, compile_scene}
use Rattle.wrap_replay_base.specs.declared.replay_tool.RecordedOutputs.{RecordedOutputs}
use Rattle.wrap_replay_base.specs.declared.replay_tool.RecordedText.{RecordedText}
use Rattle.wrap_replay_base.specs.declared.rustc_records.RecordedAnswer.{RecordedAnswer}
use Rattle.wrap_replay_base.specs.declared.rustc_records.RecordedCrate.{RecordedCrate}
use Rattle.wrap_replay_base.specs.declared.rustc_records.RecordedRustc.{RecordedRustc}
use Rattle.wrap_replay_base.proofs.AskedAlike.{asked_is, bytes_is, names_are}
use Rattle.wrap_replay.proofs.HeldOutcomes.{Tells, chosen, held_is, status_is}

-- ---- what was reported was recorded, and is the world's

told_same : (told : Option RecordedAnswer) (command : List Bytes) (dir : Bytes) (by : Asked → Made) → ((r : RecordedAnswer) → told ≡ Some r → dir ≡ r.dir → by (words r.words) ≡ printed_as r.printed) → (told_for told (words command) dir).status ≡ pos 0 → told_for told (words command) dir ≡ by (words command)
told_same None command dir by gives h = cc
told_same (Some r) command dir by gives h = chosen (same_asked (words command) (words r.words) && bytes_eq dir r.dir) (printed_as r.printed) (by (words command)) same h
  where
    same : (same_asked (words command) (words r.words) && bytes_eq dir r.dir) ≡ true → printed_as r.printed ≡ by (words command)
    same both =
        let p = and_parts (same_asked (words command) (words r.words)) (bytes_eq dir r.dir) both in
        sym (gives r refl (bytes_is dir r.dir p.1)) ∙ ap by (sym (asked_is (words command) (words r.words) p.0))

crate_same : (crate : Option RecordedCrate) (command : List Bytes) (names : List OutputName) (dir : Bytes) (by : Asked → List OutputName → Made) → ((r : RecordedCrate) → crate ≡ Some r → dir ≡ r.dir → by (words r.words) r.names ≡ made_as r.made) → (crate_for crate (words command) names dir).status ≡ pos 0 → crate_for crate (words command) names dir ≡ by (words command) names
crate_same None command names dir by gives h = cc
crate_same (Some r) command names dir by gives h = chosen (same_asked (words command) (words r.words) && (same_list same_name names r.names && bytes_eq dir r.dir)) (made_as r.made) (by (words command) names) same h
  where
    same : (same_asked (words command) (words r.words) && (same_list same_name names r.names && bytes_eq dir r.dir)) ≡ true → made_as r.made ≡ by (words command) names
    same all =
        let p = and_parts (same_asked (words command) (words r.words)) (same_list same_name names r.names && bytes_eq dir r.dir) all in
        let q = and_parts (same_list same_name names r.names) (bytes_eq dir r.dir) p.1 in
        let one = asked_is (words command) (words r.words) p.0 in
        let other = names_are names r.names q.0 in
        sym (gives r refl (bytes_is dir r.dir q.1)) ∙ sym (λ i. by (one i) (other i))

-- a digest that is one was recorded: what isn't recorded gives no digits
digest_same : (digest : Option Bytes) (made : Made) → ((d : Bytes) → digest ≡ Some d → made ≡ handed_as d) → is_digest digest_digits (text_in (handed_in digest).contents) ≡ true → handed_in digest ≡ made
digest_same None made gives h = cc
digest_same (Some d) made gives h = sym (gives d refl)

-- where no static library is at fault, each has a digest
all_found : (library : Bytes × Bytes) (rest : List (Bytes × Bytes)) → digest_fault_of (library ∷ rest) ≡ None → (is_digest digest_digits library.1 ≡ true) × (digest_fault_of rest ≡ None)
all_found library rest h = found (is_digest digest_digits library.1) refl h
  where
    found : (b : Bool) → is_digest digest_digits library.1 ≡ b → option_map (λ (l : Bytes × Bytes). BadDigest l.0) (if not b then Some library else find (λ (l : Bytes × Bytes). not (is_digest digest_digits l.1)) rest) ≡ None → (is_digest digest_digits library.1 ≡ true) × (digest_fault_of rest ≡ None)
    found true e none = (e, none)
    found false e none = cc

or_first : (first second : Option Fault) → or_else first second ≡ None → first ≡ None
or_first None second h = refl
or_first (Some fault) second h = cc

or_second : (first second : Option Fault) → or_else first second ≡ None → second ≡ None
or_second None second h = h
or_second (Some fault) second h = cc

module _ (text : Option RecordedText) (outputs : Option RecordedOutputs) (rustc : Option RecordedRustc) (world : Meaning) (c : RustCall) (gives : GivesOfRustc rustc c.question.scene world) where
  abbrev told : Meaning
  told = recorded text outputs rustc

  abbrev q : Question
  q = c.question

  digests_same : (paths : List Bytes) → digest_fault_of (digested told q.scene paths) ≡ None → digested told q.scene paths ≡ digested world q.scene paths
  digests_same [] h = refl
  digests_same (path ∷ paths) h =
      let here = all_found (path, text_in (handed_in (library_digest rustc path)).contents) (digested told q.scene paths) h in
      let one = digest_same (library_digest rustc path) (world ArchiveDigest (archive path) [] q.scene) (gives.digests path) here.0 in
      let rest = digests_same paths here.1 in
      λ i. (path, text_in (one i).contents) ∷ rest i

  -- all that was reported to a call without a fault is the world's
  dep_info_same : key_fault_of told c ≡ None → dep_info_of told q ≡ dep_info_of world q
  dep_info_same fine =
      let all = answers_of told q in
      let first = or_first (dep_info_fault_of q all.dep_info) (or_else (answer_fault_of FileNames all.file_names) (files_fault_of q all.archives)) fine in
      let answer = or_first (answer_fault_of DepInfo all.dep_info) (sources_fault_of q.scene.files q.scene.dir (text_in all.dep_info.contents)) first in
      let status = or_first (preprocess_fault_of all.dep_info) (utf8_fault_of DepInfo (text_in all.dep_info.contents)) answer in
      told_same (on_dependencies rustc) (dep_info_words q.asks) q.scene.dir (λ a. world DepInfo a [] q.scene) gives.dep_info (status_is all.dep_info status)

  after : key_fault_of told c ≡ None → or_else (answer_fault_of FileNames (file_names_of told q)) (files_fault_of q (digested told q.scene q.asks.staticlibs)) ≡ None
  after fine = or_second (dep_info_fault_of q (dep_info_of told q)) (or_else (answer_fault_of FileNames (file_names_of told q)) (files_fault_of q (digested told q.scene q.asks.staticlibs))) fine

  file_names_same : key_fault_of told c ≡ None → file_names_of told q ≡ file_names_of world q
  file_names_same fine =
      let made = file_names_of told q in
      let answer = or_first (answer_fault_of FileNames made) (files_fault_of q (digested told q.scene q.asks.staticlibs)) (after fine) in
      let status = or_first (preprocess_fault_of made) (utf8_fault_of FileNames (text_in made.contents)) answer in
      told_same (on_names rustc) (file_names_words q.asks) q.scene.dir (λ a. world FileNames a [] q.scene) gives.file_names (status_is made status)

  libraries_same : key_fault_of told c ≡ None → digested told q.scene q.asks.staticlibs ≡ digested world q.scene q.asks.staticlibs
  libraries_same fine =
      let libraries = digested told q.scene q.asks.staticlibs in
      let files = or_second (answer_fault_of FileNames (file_names_of told q)) (files_fault_of q libraries) (after fine) in
      let later = or_second (read_fault_of q.scene.files (extern_paths q)) (or_else (digest_fault_of libraries) (optional_files_fault_of q)) files in
      digests_same q.asks.staticlibs (or_first (digest_fault_of libraries) (optional_files_fault_of q) later)

  answers_same : key_fault_of told c ≡ None → answers_of told q ≡ answers_of world q
  answers_same fine =
      let dep_info = dep_info_same fine in
      let file_names = file_names_same fine in
      let libraries = libraries_same fine in
      λ i. record { dep_info = dep_info i; file_names = file_names i; archives = libraries i }

  abbrev told_work : Work
  told_work = rust_work_at told c

  abbrev world_work : Work
  world_work = rust_work_at world c

  has_record : HasRecord told_work → HasRecord world_work
  has_record fine = sym (ap (key_fault_with q) (answers_same fine)) ∙ fine

  record_same : HasRecord told_work → told_work.rec ≡ world_work.rec
  record_same fine = ap (λ (a : Answers). of_rustc (record_with c a)) (answers_same fine)

  outputs_same : HasRecord told_work → told_work.outputs ≡ world_work.outputs
  outputs_same fine = ap (λ (m : Made). outputs_of q.asks (text_in m.contents)) (file_names_same fine)

  pub dependencies_same : HasRecord told_work → told_work.dep_info ≡ world_work.dep_info
  dependencies_same fine =
      let dep_info = dep_info_same fine in
      let file_names = file_names_same fine in
      λ i. dep_info_by q.asks c.known.archive (text_in (dep_info i).contents) (output_names q.asks.emit (text_in (file_names i).contents))

  -- its key is the world's
  key_same : (digest_of : Bytes → Bytes) (text_key : Bytes) → HasRecord told_work → text_key ≡ key_of digest_of told_work.rec → store_key_with digest_of told_work text_key ≡ store_key_of digest_of world_work
  key_same digest_of text_key fine is_key =
      let rec = ap (λ (a : Answers). record_with c a) (answers_same fine) in
      let outs = outputs_same fine in
      λ i. record { family = families.Rustc; shape = record_shape digest_of (of_rustc (rec i)); names = names_of (outs i); digest = (is_key ∙ ap (λ (r : RustRecord). key_of digest_of (of_rustc r)) rec) i }

  -- a success that was recorded is the world's
  success : (pairs : Pairs) → HasRecord told_work → IsSuccess told_work pairs → IsSuccess world_work pairs
  success pairs fine s =
      let outs = outputs_same fine in
      let names = ap names_of outs in
      let e = crate_same (crate_of rustc) (compile_words q.asks) (names_of (call_outputs told c)) q.scene.dir (λ a o. world Compile a o (compile_scene q.scene)) gives.made s.succeeded in
      let fresh : told_work.fresh ≡ world_work.fresh = e ∙ ap (λ (o : List OutputName). world Compile (words (compile_words q.asks)) o (compile_scene q.scene)) names in
      record { succeeded = sym (ap (λ (m : Made). m.status) fresh) ∙ s.succeeded; made = sym (λ i. collected (names i) (fresh i).contents) ∙ s.made }

-- ---- one call

no_match : (digest_of : Bytes → Bytes) (meaning : Meaning) (c : RustCall) (held : Held) (text_key : Bytes) → MatchesFor digest_of (rust_work_at meaning c) held text_key → ⊥
no_match digest_of meaning c held text_key m = let clash : None ≡ Some m.p = m.has in cc

module _ (digest_of : Bytes → Bytes) (max_kept : Option ℕ) (tells : Tells digest_of) (text : Option RecordedText) (outputs : Option RecordedOutputs) (rustc : Option RecordedRustc) (world : Meaning) (tree : Tree) (rust : Rustc) (request : Request) (gives : GivesOfRustc rustc (scene_at rust.executable request tree) world) (old new : Shelves) (printed printed_new compiled compiled_new : ℕ) (on_file : Bytes → Type 0) (device_in : Step → Type 0) where
  abbrev told_account : RustJudgement → Account
  told_account d = rust_account_by (recorded text outputs rustc) tree rust request d

  abbrev world_account : RustJudgement → Account
  world_account d = rust_account_by world tree rust request d

  abbrev RustTold : RustJudgement → Result Answer Fault → Type 0
  RustTold d result = AskedTurn digest_of max_kept (told_account d) old new printed printed_new compiled compiled_new result × SaysBy GoesOn (told_account d) on_file device_in result

  abbrev call_for : RustAsks → RustCall
  call_for asked = rust_call_at rust request tree asked

  abbrev told_for_call : RustAsks → Work
  told_for_call asked = rust_work_at (recorded text outputs rustc) (call_for asked)

  abbrev world_for_call : RustAsks → Work
  world_for_call asked = rust_work_at world (call_for asked)

  -- no include record is asked by, so that the key is that of its own record
  own_key : (asked : RustAsks) (from : Bool) (text_key : Bytes) → WorkKeyFrom digest_of (told_for_call asked) old.entries.held from text_key → text_key ≡ key_of digest_of (told_for_call asked).rec
  own_key asked true text_key m = absurd (no_match digest_of (recorded text outputs rustc) (call_for asked) old.entries.held text_key m)
  own_key asked false text_key is_key = is_key

  -- what was kept is what the world's compiler gives afresh
  kept : (asked : RustAsks) (from : Bool) (text_key : Bytes) → WorkKeyFrom digest_of (told_for_call asked) old.entries.held from text_key → HasRecord (told_for_call asked) → IsTold digest_of (told_for_call asked).rec → (pairs : Pairs) → old.objects.held (store_key_with digest_of (told_for_call asked) text_key) ≡ Some pairs → (earlier : List Account) → Invariant digest_of earlier old.objects.held → Premises digest_of (earlier ++ worked (world_for_call asked) ∷ []) → IsSuccess (world_for_call asked) pairs
  kept asked from text_key is_key fine is_told pairs held earlier inv premises =
      let c = call_for asked in
      let same = key_same text outputs rustc world c gives digest_of text_key fine (own_key asked from text_key is_key) in
      let world_told = subst (λ r. IsTold digest_of r) (record_same text outputs rustc world c gives fine) is_told in
      held_is digest_of tells (world_for_call asked) (has_record text outputs rustc world c gives fine) world_told old.objects.held pairs (ap old.objects.held (sym same) ∙ held) earlier inv premises

  -- outputs are at the same paths
  at_same_paths : (asked : RustAsks) (pairs : Pairs) → HasRecord (told_for_call asked) → placed (told_for_call asked).outputs pairs ≡ placed (world_for_call asked).outputs pairs
  at_same_paths asked pairs fine = ap (λ (o : Artifacts). placed o pairs) (outputs_same text outputs rustc world (call_for asked) gives fine)

  pub rust_answers : (d : RustJudgement) (result : Result Answer Fault) → RustTold d result → (earlier : List Account) → Invariant digest_of earlier old.objects.held → Premises digest_of (earlier ++ world_account d ∷ []) → answers.Answers (world_account d) result
  rust_answers (passes why) result turn earlier inv premises = tt
  rust_answers (asks asked) (Ok (Pass reason)) turn earlier inv premises = tt
  rust_answers (asks asked) (Err fault) turn earlier inv premises = tt
  rust_answers (asks asked) (Ok (Outputs map Fresh dep_info)) turn earlier inv premises =
      let fine = turn.1.1 in
      let it = turn.0.objects.told in
      (it.0, it.1 ∙ at_same_paths asked it.0 fine, success text outputs rustc world (call_for asked) gives it.0 fine it.2.made)
  rust_answers (asks asked) (Ok (Outputs map Stored dep_info)) turn earlier inv premises =
      let fine = turn.1.1 in
      let it = turn.0.objects.told in
      (it.0, it.1 ∙ at_same_paths asked it.0 fine, kept asked turn.0.from turn.0.text_key turn.0.is_key fine it.2.told it.0 it.2.held earlier inv premises)
  rust_answers (asks asked) (Ok (Outputs map Direct dep_info)) turn earlier inv premises =
      let fine = turn.1.1 in
      let it = turn.0.objects.told.1 in
      (it.0, it.1 ∙ at_same_paths asked it.0 fine, kept asked turn.0.from turn.0.text_key turn.0.is_key fine it.2.told it.0 it.2.held earlier inv premises)

  pub rust_tells : (d : RustJudgement) (result : Result Answer Fault) → RustTold d result → TellsOwnDependencies (world_account d) result
  rust_tells (passes why) result turn = tt
  rust_tells (asks asked) (Ok (Pass reason)) turn = tt
  rust_tells (asks asked) (Err fault) turn = tt
  rust_tells (asks asked) (Ok (Outputs map how dep_info)) turn = turn.1.0 ∙ dependencies_same text outputs rustc world (call_for asked) gives turn.1.1

  pub rust_grows : (d : RustJudgement) (result : Result Answer Fault) → RustTold d result → (earlier : List Account) → Invariant digest_of earlier old.objects.held → Invariant digest_of (earlier ++ world_account d ∷ []) new.objects.held
  rust_grows d result turn earlier inv key pairs h = by d result turn
    where
      was : (e : RustJudgement) → old.objects.held key ≡ Some pairs → (w : Work) × Contains (earlier ++ world_account e ∷ []) (worked w) × IsOf digest_of w key pairs
      was e held = let w = inv key pairs held in (w.0, Contains-append_left earlier (world_account e ∷ []) (worked w.0) w.1, w.2)

      by : (e : RustJudgement) (r : Result Answer Fault) → RustTold e r → (w : Work) × Contains (earlier ++ world_account e ∷ []) (worked w) × IsOf digest_of w key pairs
      by (passes why) r t = elim (t.0.objects.gains key pairs h) [
        | inl held ↦ was (passes why) held
        | inr own ↦ absurd own
      ]
      by (asks asked) (Ok (Pass reason)) t = absurd t.1
      by (asks asked) (Err fault) t = was (asks asked) (t.0.objects.faulted key pairs h)
      by (asks asked) (Ok (Outputs map how dep_info)) t = elim (t.0.objects.gains key pairs h) [
        | inl held ↦ was (asks asked) held
        | inr own ↦ (
            let c = call_for asked in
            let fine = t.1.1 in
            let same = key_same text outputs rustc world c gives digest_of t.0.text_key fine (own_key asked t.0.from t.0.text_key t.0.is_key) in
            let is_told = subst (λ r. IsTold digest_of r) (record_same text outputs rustc world c gives fine) own.told in
            (world_for_call asked, Contains-push earlier (worked (world_for_call asked)), (has_record text outputs rustc world c gives fine, record { is_key = own.is_key ∙ same; made = success text outputs rustc world c gives pairs fine own.made; told = is_told })))
      ]
