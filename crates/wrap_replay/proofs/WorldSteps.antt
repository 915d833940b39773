-- From the recorded answers to a world that gives them.
use Rattle.std.proofs.Common.{◌≡◌, ℕ, pos, Bool, true, false, ◌&&◌, List, [], ◌∷◌, ◌++◌, Option, None, Some, Result, Ok, Err, inl, inr, refl, sym, ap, ◌∙◌, if◌then◌else◌}
use Rattle.std.specs.List.{Contains}
use Rattle.std.specs.Ordering.{int_eq}
use Rattle.std.proofs.lemmas.Bool.{and_parts}
use Rattle.std.proofs.lemmas.List.Elements.{Contains-append_left, Contains-push}
use Rattle.base_files.specs.Bytes.{Bytes}
use Rattle.base_files.specs.Tree.{Tree}
use Rattle.cmdlines.specs.Commands.{compile_words, output_path, preprocess_words}
use Rattle.ckeys.specs.Calls.{KeyCall, PrintedCall, extra_paths, input_path, key_fault_by, missing_input, needs_preprocessing, printed_call, printed_of, record_by, record_with, text_by}
use Rattle.ckeys_records.specs.Faults.{or_else, preprocess_fault_of, read_fault_of}
use Rattle.ckeys_records.specs.Meaning.{text_in}
use Rattle.ckeys_include_records.specs.Surroundings.{contents_in}
use Rattle.std.specs.Option.{option_map}
use Rattle.ckeys.specs.Entries.{Held, has_entry_key}
use Rattle.ckeys.specs.EntryTurns.{IsSpared}
use Rattle.ckeys_records.specs.Folders.{Settings}
use Rattle.ckeys_records.specs.Meaning.{Asked, Made, Meaning, Scene, asked_of, names_of}
use Rattle.ckeys_records.specs.declared.fault.Fault.{Fault}
use Rattle.ckeys_records.specs.declared.fault.Fault.TheVariants.{Read, PreprocessFailed}
use Rattle.ckeys_records.specs.declared.output_name.OutputName.{OutputName}
use Rattle.ckeys_records.specs.declared.step.Step.{Step}
use Rattle.ckeys_records.specs.declared.step.Step.TheVariants.{Preprocess, Compile}
use Rattle.wrap_base.specs.Commands.{CFound, NamedBy, by_c, by_rustc, words_at}
use Rattle.wrap.specs.Account.{Account, passed, worked, Work, Pairs, IsSuccess, account_by, account_named, call_at, collected, scene_at, work_at}
use Rattle.wrap.specs.RustVerdicts.{rust_verdict_of}
use Rattle.wrap.specs.Answers.{Answers, GoesOn, GoesOnWith, SaysBy}
use Rattle.wrap.specs.CallRecords.{family_of, key_of, of_c, record_shape}
use Rattle.wrap.specs.Asking.{AskedTurn, MatchesFor, RecordsAreTrue, Shelves, WorkKeyFrom}
use Rattle.wrap.specs.StoreKeys.{HasRecord, Invariant, IsOf, Premises, store_key_of, store_key_with}
use Rattle.wrap.specs.Verdicts.{Judgement, passes, asks, verdict_of}
use Rattle.wrap_base.specs.declared.answer.Answer.{Answer}
use Rattle.wrap_base.specs.declared.answer.Answer.TheVariants.{Pass, Outputs}
use Rattle.wrap_base.specs.declared.answer.How.TheVariants.{Direct, Stored, Fresh}
use Rattle.wrap_base.specs.declared.request.Request.{Request}
use Rattle.wrap_base.specs.declared.store_key.StoreKey.{StoreKey}
use Rattle.wrap_replay_base.specs.Recorded.{made_for, made_in, printed_for, printed_in, recorded}
use Rattle.wrap_replay_base.specs.SameAsked.{same_asked, same_list, same_name}
use Rattle.wrap_replay.specs.Worlds.{Gives, GivesNamed}
use Rattle.wrap_replay_base.specs.declared.replay_tool.RecordedOutputs.{RecordedOutputs}
use Rattle.wrap_replay_base.specs.declared.replay_tool.RecordedText.{RecordedText}
use Rattle.wrap_replay.specs.Beside.{TellsOwnDependencies}
use Rattle.wrap_replay_base.specs.declared.rustc_records.RecordedRustc.{RecordedRustc}
use Rattle.ckeys.proofs.EntryLemmas.{spared_none}
use Rattle.wrap_replay_base.proofs.AskedAlike.{asked_is, names_are}
use Rattle.wrap_replay.proofs.HeldOutcomes.{Tells, chosen, held_is, status_is}
use Rattle.wrap_replay.proofs.RustWorlds.{rust_answers, rust_grows, rust_tells}

-- ---- what succeeded was recorded, and is the world's

module _ (world : Meaning) (scene : Scene) where
  printed_same : (r : RecordedText) (asked : Asked) → world Preprocess (asked_of r.kind r.words) [] scene ≡ printed_in r → same_asked asked (asked_of r.kind r.words) ≡ true → printed_in r ≡ world Preprocess asked [] scene
  printed_same r asked gives h = sym gives ∙ ap (λ q. world Preprocess q [] scene) (sym (asked_is asked (asked_of r.kind r.words) h))

  pub printed_is : (text : Option RecordedText) (asked : Asked) → ((r : RecordedText) → text ≡ Some r → world Preprocess (asked_of r.kind r.words) [] scene ≡ printed_in r) → (printed_for text asked).status ≡ pos 0 → printed_for text asked ≡ world Preprocess asked [] scene
  printed_is None asked gives h = cc
  printed_is (Some r) asked gives h = chosen (same_asked asked (asked_of r.kind r.words)) (printed_in r) (world Preprocess asked [] scene) (printed_same r asked (gives r refl)) h

  made_same : (r : RecordedOutputs) (asked : Asked) (names : List OutputName) → world Compile (asked_of r.kind r.words) r.names scene ≡ made_in r → (same_asked asked (asked_of r.kind r.words) && same_list same_name names r.names) ≡ true → made_in r ≡ world Compile asked names scene
  made_same r asked names gives h =
      let p = and_parts (same_asked asked (asked_of r.kind r.words)) (same_list same_name names r.names) h in
      let one = asked_is asked (asked_of r.kind r.words) p.0 in
      let other = names_are names r.names p.1 in
      sym gives ∙ sym (λ i. world Compile (one i) (other i) scene)

  pub made_is : (outputs : Option RecordedOutputs) (asked : Asked) (names : List OutputName) → ((r : RecordedOutputs) → outputs ≡ Some r → world Compile (asked_of r.kind r.words) r.names scene ≡ made_in r) → (made_for outputs asked names).status ≡ pos 0 → made_for outputs asked names ≡ world Compile asked names scene
  made_is None asked names gives h = cc
  made_is (Some r) asked names gives h = chosen (same_asked asked (asked_of r.kind r.words) && same_list same_name names r.names) (made_in r) (world Compile asked names scene) (made_same r asked names (gives r refl)) h

-- ---- a call with another text

abbrev with_text : KeyCall → Made → PrintedCall
with_text c m = record { call = c; printed = m }

none_fails : (needs : Bool) (first second third : Option Fault) (m : Made) → or_else first (or_else second (if needs then preprocess_fault_of m else third)) ≡ None → needs ≡ true → m.status ≡ pos 0
none_fails needs (Some f) second third m h n = cc
none_fails needs None (Some f) third m h n = cc
none_fails true None None third m h n = status_is m h
none_fails false None None third m h n = cc

same_if : {X Y : Type 0} (b : Bool) (f : X → Y) (x y : X) (other : Y) → (b ≡ true → x ≡ y) → (if b then f x else other) ≡ (if b then f y else other)
same_if true f x y other same = ap f (same refl)
same_if false f x y other same = refl

-- its faults in the order of the steps: an extra file, the input where an include record is asked for, and the input as the text
abbrev extra_fault : KeyCall → Option Fault
extra_fault c = read_fault_of c.scene.files (extra_paths c)

abbrev input_fault : KeyCall → Option Fault
input_fault c = option_map Read (missing_input c)

abbrev own_fault : KeyCall → Option Fault
own_fault c = read_fault_of c.scene.files (input_path c ∷ [])

-- a call that had a record has that of the world
fine_text : (c : KeyCall) (m n : Made) → (m.status ≡ pos 0 → m ≡ n) → key_fault_by (with_text c m) ≡ None → (record_by (with_text c m) ≡ record_by (with_text c n)) × (key_fault_by (with_text c n) ≡ None)
fine_text c m n same fine =
    let needs = needs_preprocessing c.parsed.language in
    let needed : needs ≡ true → m ≡ n = λ is. same (none_fails needs (extra_fault c) (input_fault c) (own_fault c) m fine is) in
    let texts : text_by (with_text c m) ≡ text_by (with_text c n) = same_if needs (λ (x : Made). text_in x.contents) m n (contents_in c.scene.files (input_path c)) needed in
    let faults : key_fault_by (with_text c m) ≡ key_fault_by (with_text c n) = ap (λ (f : Option Fault). or_else (extra_fault c) (or_else (input_fault c) f)) (same_if needs preprocess_fault_of m n (own_fault c) needed) in
    (ap (λ (t : Bytes). record_with c t) texts, sym faults ∙ fine)

spared_first : (first rest other : Option Fault) → (IsSpared rest → IsSpared other) → IsSpared (or_else first rest) → IsSpared (or_else first other)
spared_first None rest other more h = more h
spared_first (Some f) rest other more h = h

spared_text : (needs : Bool) (m n : Made) (third : Option Fault) → IsSpared (if needs then preprocess_fault_of m else third) → IsSpared (if needs then preprocess_fault_of n else third)
spared_text true m n third h = by (int_eq n.status (pos 0))
  where
    by : (b : Bool) → IsSpared (if b then None else Some (PreprocessFailed n.status))
    by true = tt
    by false = tt
spared_text false m n third h = h

spared : (c : KeyCall) (m n : Made) → IsSpared (key_fault_by (with_text c m)) → IsSpared (key_fault_by (with_text c n))
spared c m n h =
    let needs = needs_preprocessing c.parsed.language in
    let one : Made → Option Fault = λ x. if needs then preprocess_fault_of x else own_fault c in
    spared_first (extra_fault c) (or_else (input_fault c) (one m)) (or_else (input_fault c) (one n)) (spared_first (input_fault c) (one m) (one n) (spared_text needs m n (own_fault c))) h

-- ---- what include records give

direct_by : (b : Bool) (one other p : PrintedCall) → (if b then Some one else None) ≡ Some p → (one ≡ p) × ((if b then Some other else None) ≡ Some other)
direct_by true one other p h = (cc, refl)
direct_by false one other p h = cc

matches : (digest_of : Bytes → Bytes) (told world : Meaning) (c : KeyCall) (held : Held) (text_key : Bytes) → MatchesFor digest_of (work_at told c) held text_key → MatchesFor digest_of (work_at world c) held text_key
matches digest_of told world c held text_key m =
    let p = direct_by (has_entry_key c) (printed_call told c) (printed_call world c) m.p m.has in
    let call_is : m.p.call ≡ c = ap (λ (q : PrintedCall). q.call) (sym p.0) in
    record {
      p = printed_call world c;
      has = p.1;
      framed = rw (← call_is) m.framed;
      match = rw (← call_is) m.match;
    }

module _ (digest_of : Bytes → Bytes) (text : Option RecordedText) (outputs : Option RecordedOutputs) (rustc : Option RecordedRustc) (world : Meaning) (c : KeyCall) (gives : Gives text outputs c.scene world) (held : Held) where
  abbrev told_work : Work
  told_work = work_at (recorded text outputs rustc) c

  abbrev world_work : Work
  world_work = work_at world c

  -- a success that was recorded is the world's
  success : (pairs : Pairs) → IsSuccess told_work pairs → IsSuccess world_work pairs
  success pairs s =
      let e : world_work.fresh ≡ told_work.fresh = sym (made_is world c.scene outputs (asked_of c.kind (compile_words c.kind c.parsed (output_path c.parsed))) (names_of c.parsed.outputs) gives.made s.succeeded) in
      record { succeeded = ap (λ (m : Made). m.status) e ∙ s.succeeded; made = ap (λ (m : Made). collected (names_of c.parsed.outputs) m.contents) e ∙ s.made }

  -- a call that asked the store asked under the key that it has in the world
  abbrev IsWorlds : Bytes → Type 0
  IsWorlds text_key = (HasRecord world_work) × (store_key_with digest_of told_work text_key ≡ store_key_of digest_of world_work)

  by_text : (text_key : Bytes) → text_key ≡ key_of digest_of told_work.rec → told_work.fault ≡ None → IsWorlds text_key
  by_text text_key is_key fine =
      let it = fine_text c (printed_of (recorded text outputs rustc) c) (printed_of world c) (printed_is world c.scene text (asked_of c.kind (preprocess_words c.kind c.parsed)) gives.printed) fine in
      (it.1, λ i. record { family = family_of (of_c (it.0 i)); shape = record_shape digest_of (of_c (it.0 i)); names = names_of c.parsed.outputs; digest = (is_key ∙ ap (λ r. key_of digest_of (of_c r)) it.0) i })

  spared_at : (o : Option PrintedCall) (p : PrintedCall) → o ≡ Some p → GoesOnWith o told_work.fault → IsSpared told_work.fault
  spared_at None p e goes = cc
  spared_at (Some q) p e goes = goes

  by_record : (text_key : Bytes) → MatchesFor digest_of told_work held text_key → GoesOn told_work → RecordsAreTrue digest_of (worked world_work) held → IsWorlds text_key
  by_record text_key m goes are_true =
      let it = are_true text_key (matches digest_of (recorded text outputs rustc) world c held text_key m) in
      let fault = spared c (printed_of (recorded text outputs rustc) c) (printed_of world c) (spared_at told_work.direct m.p m.has goes) in
      (spared_none world_work.fault fault it.succeeds, λ i. record { family = family_of world_work.rec; shape = record_shape digest_of world_work.rec; names = names_of c.parsed.outputs; digest = it.is_key i })

  key_is : (from : Bool) (text_key : Bytes) → WorkKeyFrom digest_of told_work held from text_key → (from ≡ false → told_work.fault ≡ None) → GoesOn told_work → RecordsAreTrue digest_of (worked world_work) held → IsWorlds text_key
  key_is true text_key is_key fine goes are_true = by_record text_key is_key goes are_true
  key_is false text_key is_key fine goes are_true = by_text text_key is_key (fine refl)

module _ (digest_of : Bytes → Bytes) (max_kept : Option ℕ) (tells : Tells digest_of) (text : Option RecordedText) (outputs : Option RecordedOutputs) (rustc : Option RecordedRustc) (world : Meaning) (c : KeyCall) (gives : Gives text outputs c.scene world) (old new : Shelves) (printed printed_new compiled compiled_new : ℕ) (are_true : RecordsAreTrue digest_of (worked (work_at world c)) old.entries.held) (earlier : List Account) (inv : Invariant digest_of earlier old.objects.held) where
  abbrev Turned : Result Answer Fault → Type 0
  Turned result = AskedTurn digest_of max_kept (worked (work_at (recorded text outputs rustc) c)) old new printed printed_new compiled compiled_new result

  work_answers : (result : Result Answer Fault) → Turned result → (on_file : Bytes → Type 0) (device_in : Step → Type 0) → SaysBy GoesOn (worked (work_at (recorded text outputs rustc) c)) on_file device_in result → Premises digest_of (earlier ++ worked (work_at world c) ∷ []) → Answers (worked (work_at world c)) result
  work_answers (Ok (Pass reason)) turn on_file device_in says premises = tt
  work_answers (Err fault) turn on_file device_in says premises = tt
  work_answers (Ok (Outputs map Fresh dep_info)) turn on_file device_in says premises = (turn.objects.told.0, turn.objects.told.1, success digest_of text outputs rustc world c gives old.entries.held turn.objects.told.0 turn.objects.told.2.made)
  work_answers (Ok (Outputs map Stored dep_info)) turn on_file device_in says premises =
      let it = key_is digest_of text outputs rustc world c gives old.entries.held turn.from turn.text_key turn.is_key turn.fine says.1 are_true in
      let kept = turn.objects.told.2 in
      (turn.objects.told.0, turn.objects.told.1, held_is digest_of tells (work_at world c) it.0 kept.told old.objects.held turn.objects.told.0 (ap old.objects.held (sym it.1) ∙ kept.held) earlier inv premises)
  work_answers (Ok (Outputs map Direct dep_info)) turn on_file device_in says premises =
      let it = key_is digest_of text outputs rustc world c gives old.entries.held turn.from turn.text_key turn.is_key turn.fine says.1 are_true in
      let kept = turn.objects.told.1.2 in
      (turn.objects.told.1.0, turn.objects.told.1.1, held_is digest_of tells (work_at world c) it.0 kept.told old.objects.held turn.objects.told.1.0 (ap old.objects.held (sym it.1) ∙ kept.held) earlier inv premises)

  was_held : (key : StoreKey) (pairs : Pairs) → old.objects.held key ≡ Some pairs → (w : Work) × Contains (earlier ++ worked (work_at world c) ∷ []) (worked w) × IsOf digest_of w key pairs
  was_held key pairs was = let w = inv key pairs was in (w.0, Contains-append_left earlier (worked (work_at world c) ∷ []) (worked w.0) w.1, w.2)

  work_grows : (result : Result Answer Fault) → Turned result → (on_file : Bytes → Type 0) (device_in : Step → Type 0) → SaysBy GoesOn (worked (work_at (recorded text outputs rustc) c)) on_file device_in result → Invariant digest_of (earlier ++ worked (work_at world c) ∷ []) new.objects.held
  work_grows (Ok (Pass reason)) turn on_file device_in says key pairs h = absurd says
  work_grows (Err fault) turn on_file device_in says key pairs h = was_held key pairs (turn.objects.faulted key pairs h)
  work_grows (Ok (Outputs map how dep_info)) turn on_file device_in says key pairs h = elim (turn.objects.gains key pairs h) [
    | inl was ↦ was_held key pairs was
    | inr own ↦ (
        let it = key_is digest_of text outputs rustc world c gives old.entries.held turn.from turn.text_key turn.is_key turn.fine says.1 are_true in
        (work_at world c, Contains-push earlier (worked (work_at world c)), (it.0, record { is_key = own.is_key ∙ it.1; made = success digest_of text outputs rustc world c gives old.entries.held pairs own.made; told = own.told })))
  ]

module _ (digest_of : Bytes → Bytes) (max_kept : Option ℕ) (tells : Tells digest_of) (text : Option RecordedText) (outputs : Option RecordedOutputs) (rustc : Option RecordedRustc) (world : Meaning) (tree : Tree) (settings : Settings) (found : CFound) (request : Request) (gives : Gives text outputs (scene_at found.executable request tree) world) (old new : Shelves) (printed printed_new compiled compiled_new : ℕ) (result : Result Answer Fault) (on_file : Bytes → Type 0) (device_in : Step → Type 0) where
  abbrev Told : Judgement → Type 0
  Told d = AskedTurn digest_of max_kept (account_by (recorded text outputs rustc) tree settings found request d) old new printed printed_new compiled compiled_new result × SaysBy GoesOn (account_by (recorded text outputs rustc) tree settings found request d) on_file device_in result

  answers_by : (d : Judgement) → Told d → RecordsAreTrue digest_of (account_by world tree settings found request d) old.entries.held → (earlier : List Account) → Invariant digest_of earlier old.objects.held → Premises digest_of (earlier ++ account_by world tree settings found request d ∷ []) → Answers (account_by world tree settings found request d) result
  answers_by (passes why) told are_true earlier inv premises = tt
  answers_by (asks p) told are_true earlier inv premises = work_answers digest_of max_kept tells text outputs rustc world (call_at found request tree settings p) gives old new printed printed_new compiled compiled_new are_true earlier inv result told.0 on_file device_in told.1 premises

  grows_by : (d : Judgement) → Told d → RecordsAreTrue digest_of (account_by world tree settings found request d) old.entries.held → (earlier : List Account) → Invariant digest_of earlier old.objects.held → Invariant digest_of (earlier ++ account_by world tree settings found request d ∷ []) new.objects.held
  grows_by (passes why) told are_true earlier inv key pairs h = elim (told.0.objects.gains key pairs h) [
    | inl was ↦ (let w = inv key pairs was in (w.0, Contains-append_left earlier (passed why ∷ []) (worked w.0) w.1, w.2))
    | inr own ↦ absurd own
  ]
  grows_by (asks p) told are_true earlier inv key pairs h = work_grows digest_of max_kept tells text outputs rustc world (call_at found request tree settings p) gives old new printed printed_new compiled compiled_new are_true earlier inv result told.0 on_file device_in told.1 key pairs h

-- of whichever compiler
module _ (digest_of : Bytes → Bytes) (max_kept : Option ℕ) (tells : Tells digest_of) (text : Option RecordedText) (outputs : Option RecordedOutputs) (rustc : Option RecordedRustc) (world : Meaning) (tree : Tree) (settings : Settings) (request : Request) (old new : Shelves) (printed printed_new compiled compiled_new : ℕ) (result : Result Answer Fault) (on_file : Bytes → Type 0) (device_in : Step → Type 0) where
  abbrev NamedTold : NamedBy → Type 0
  NamedTold n = AskedTurn digest_of max_kept (account_named (recorded text outputs rustc) tree settings request n) old new printed printed_new compiled compiled_new result × SaysBy GoesOn (account_named (recorded text outputs rustc) tree settings request n) on_file device_in result

  pub answers_named : (n : NamedBy) → GivesNamed n text outputs rustc request tree world → NamedTold n → RecordsAreTrue digest_of (account_named world tree settings request n) old.entries.held → (earlier : List Account) → Invariant digest_of earlier old.objects.held → Premises digest_of (earlier ++ account_named world tree settings request n ∷ []) → Answers (account_named world tree settings request n) result
  answers_named (by_c found) gives told are_true earlier inv premises = answers_by digest_of max_kept tells text outputs rustc world tree settings found request gives old new printed printed_new compiled compiled_new result on_file device_in (verdict_of found.kind (words_at found request tree)) told are_true earlier inv premises
  answers_named (by_rustc rust) gives told are_true earlier inv premises = rust_answers digest_of max_kept tells text outputs rustc world tree rust request gives old new printed printed_new compiled compiled_new on_file device_in (rust_verdict_of request tree) result told earlier inv premises

  pub grows_named : (n : NamedBy) → GivesNamed n text outputs rustc request tree world → NamedTold n → RecordsAreTrue digest_of (account_named world tree settings request n) old.entries.held → (earlier : List Account) → Invariant digest_of earlier old.objects.held → Invariant digest_of (earlier ++ account_named world tree settings request n ∷ []) new.objects.held
  grows_named (by_c found) gives told are_true earlier inv = grows_by digest_of max_kept tells text outputs rustc world tree settings found request gives old new printed printed_new compiled compiled_new result on_file device_in (verdict_of found.kind (words_at found request tree)) told are_true earlier inv
  grows_named (by_rustc rust) gives told are_true earlier inv = rust_grows digest_of max_kept tells text outputs rustc world tree rust request gives old new printed printed_new compiled compiled_new on_file device_in (rust_verdict_of request tree) result told earlier inv

  pub tells_named : (n : NamedBy) → GivesNamed n text outputs rustc request tree world → NamedTold n → TellsOwnDependencies (account_named world tree settings request n) result
  tells_named (by_c found) gives told = none_beside (verdict_of found.kind (words_at found request tree)) result told.1
    where
      none_beside : (d : Judgement) (r : Result Answer Fault) → SaysBy GoesOn (account_by (recorded text outputs rustc) tree settings found request d) on_file device_in r → TellsOwnDependencies (account_by world tree settings found request d) r
      none_beside (passes why) r says = tt
      none_beside (asks p) (Ok (Pass reason)) says = tt
      none_beside (asks p) (Ok (Outputs map how dep_info)) says = says.0
      none_beside (asks p) (Err fault) says = tt
  tells_named (by_rustc rust) gives told = rust_tells digest_of max_kept tells text outputs rustc world tree rust request gives old new printed printed_new compiled compiled_new on_file device_in (rust_verdict_of request tree) result told
