-- How a call ends, by what the look-up and the put said.
use Rattle.std.proofs.Common.{◌≡◌, ℕ, List, if◌then◌else◌, Bool, true, false, Option, Some, None, IsSome, IsNone, Result, Ok, Err, OnOk, ◌⊎◌, inl, inr, refl, sym, ap, subst, ◌∙◌, IsErrAnd}
use Rattle.std.proofs.lemmas.Bool.{true≢false}
use Rattle.std.proofs.lemmas.Result.{err_from_is_err_and}
use Rattle.base_files.specs.Bytes.{Bytes, ticked}
use Rattle.base_files.specs.Tree.{Tree}
use Rattle.base_files.specs.Views.{FilesView}
use Rattle.cmdlines_tables.specs.declared.parsed.ParsedArguments.{ParsedArguments}
use Rattle.ckeys_base.specs.Shelf.{Shelf, Asks, Puts, Forgotten, Within}
use Rattle.ckeys.specs.Calls.{PrintedCall, key_fault_by}
use Rattle.ckeys_records.specs.Faults.{KeyCause}
use Rattle.ckeys_records.specs.Folders.{Settings}
use Rattle.ckeys_records.specs.Causes.{Cause, of_memory, of_file, of_tool, of_key, of_compile, ByStage, HasOwnFault, IsCausedBy, cause_of, no_file, no_step, stage_by, stage_of, step_by}
use Rattle.ckeys_records.specs.Untouched.{Untouched}
use Rattle.ckeys_records.specs.Views.{AreSteady, ToolView}
use Rattle.ckeys.specs.Entries.{Held}
use Rattle.ckeys.specs.EntryTurns.{IsPut, IsSpared, KeyFine, KeyRecorded, KeyRuns, PutsNone, RunsUntil, RunsUntilStep}
use Rattle.ckeys_records.specs.Meaning.{AtMostOnce}
use Rattle.wrap_keys.specs.CallRecords.{CallRecord, IsTold, of_c, of_rustc}
use Rattle.ckeys_records.specs.Meaning.{Meaning, FailsIn}
use Rattle.ckeys_include_records.specs.declared.entry_key.EntryKey.{EntryKey}
use Rattle.ckeys_include_records.specs.Records.{Record}
use Rattle.ckeys_records.specs.declared.fault.Fault.{Fault}
use Rattle.ckeys_records.specs.declared.fault.Fault.TheVariants.{Memory}
use Rattle.ckeys_records.specs.declared.step.Step.{Step}
use Rattle.ckeys_records.specs.declared.step.Step.TheVariants.{Preprocess, Compile, DepInfo, FileNames, ArchiveDigest}
use Rattle.wrap_keys.specs.Account.{Account, passed, worked, Work, Pairs, IsSuccess, account_by, call_at, compile_fault_of, direct_of, placed, work_at}
use Rattle.wrap_keys.specs.Answers.{EarlyCause, GoesOn, GoesOnWith, OnPass, Placed, SaysBy, SaysWorkedBy}
use Rattle.wrap_keys.specs.Asking.{AskedTurn, AskedUnder, EntriesBy, EntriesTurn, HowFrom, OnUnkeyed, RanForKey, RecordsAreTrue, RunsOf, RunsOfRecord, Shelves, StopsEarly, WorkKeyFrom}
use Rattle.wrap.specs.Prepared.{SaysFinished}
use Rattle.wrap_keys.specs.Sizes.{is_within, size_in, size_of}
use Rattle.wrap_keys.specs.StoreKeys.{store_key_with}
use Rattle.wrap_keys.specs.Turn.{GetsBy, KeyedTurn, PutsBy, own_text_key, StillKept, StoredTurn, MissTurn, Told, ToldBy}
use Rattle.wrap_keys.specs.Verdicts as verdicts
use Rattle.wrap_keys.specs.Verdicts.{Judgement}
use Rattle.wrap_base.specs.Commands.{CFound}
use Rattle.wrap_base.specs.declared.answer.Answer.{Answer}
use Rattle.wrap_base.specs.declared.request.Request.{Request}
use Rattle.wrap_base.specs.declared.answer.Answer.TheVariants.{Outputs, Pass}
use Rattle.wrap_base.specs.declared.answer.How.TheVariants.{Fresh}
use Rattle.wrap_base.specs.declared.answer.Output.{Output}
use Rattle.wrap_base.specs.declared.store_key.StoreKey.{StoreKey}
use Rattle.wrap.specs.Steps.{CompileCause, IsKept, RanOnce, kept_how}
use Rattle.ckeys_records.proofs.CauseLemmas.{by_stage, caused_more, file_early}
use Rattle.ckeys.proofs.EntryLemmas.{spared_none}
use Rattle.wrap_keys.proofs.SizeLemmas.{size_placed}

some_or_none : {A : Type 0} (o : Option A) → IsSome o ⊎ (o ≡ None)
some_or_none None = inr refl
some_or_none (Some x) = inl refl

not_forgotten : (before answer : Option Pairs) (pairs : Pairs) → answer ≡ Some pairs → Forgotten before answer → ⊥
not_forgotten before answer pairs e f = let h = rw e at f.1 in cc

some_is_not_none : (o p : Option Pairs) → o ≡ p → IsSome p → IsNone o → ⊥
some_is_not_none o p e s n = let h = rw e at n in cc

-- a look-up that dropped nothing forgot nothing
asks_kept : (old asked : Shelf StoreKey Pairs) (key : StoreKey) (answer : Option Pairs) → Asks old asked key answer → asked.kept ≡ true → StillKept old asked
asks_kept old asked key answer asks h = record { was = (asks.kept.0 h).0; keys = (asks.kept.0 h).1; steady = asks.steady (λ f. some_is_not_none _ _ asks.value ((asks.kept.0 h).1 key f.0) f.1) }

-- a put that lost nothing holds its pair
put_holds : (eq : StoreKey → StoreKey → Bool) (new : Shelf StoreKey Pairs) (key : StoreKey) (value : Pairs) (asked : Shelf StoreKey Pairs) (put : Result (Unit {0}) (StoreKey × Pairs)) → Puts eq asked new key value put → new.kept ≡ true → new.held key ≡ Some value
put_holds eq new key value asked (Ok u) puts kept = puts.outcome
put_holds eq new key value asked (Err pair) puts kept = let refused = (puts.kept.0 kept).2 in cc

-- a put takes its pair, or it's refused
is_put_of : (eq : StoreKey → StoreKey → Bool) (old asked new : Shelf StoreKey Pairs) (key : StoreKey) (value : Pairs) (put : Result (Unit {0}) (StoreKey × Pairs)) → Within old.held asked.held → Puts eq asked new key value put → IsPut old new key value
is_put_of eq old asked new key value (Ok u) within puts = inl puts.outcome
is_put_of eq old asked new key value (Err pair) within puts = inr (record { within = λ k e h. within k e (puts.outcome.1 k e h); told = by new.kept refl })
  where
    by : (b : Bool) → new.kept ≡ b → b ≡ false
    by true e = let refused = (puts.kept.0 e).2 in cc
    by false e = refl

module _ (digest_of : Bytes → Bytes) (max_kept : Option ℕ) (text_key : Bytes) (w : Work) (key : StoreKey) (is_key : key ≡ store_key_with digest_of w text_key) (old asked : Shelf StoreKey Pairs) (answer : Option Pairs) (asks : Asks old asked key answer) where
  -- the look-up failed for memory
  pub turn_ask_failed : (before after : ℕ) → after ≡ before → (result : Result Answer Fault) → IsErrAnd result (λ f. f ≡ Memory) → KeyedTurn digest_of max_kept text_key (worked w) old asked before after result
  turn_ask_failed before after same result err =
      let p = err_from_is_err_and result err in
      rw (p.1, p.2) (record {
        gains = λ k v h. inl (asks.within k v h);
        faulted = asks.within;
        unrefused = λ was keys. asks.kept.1 (was, keys);
        kept = asks_kept old asked key answer asks;
        cleared = asks.cleared;
        put = asks.put;
        got = inr asks.got;
        told = inl same;
      })

  -- what the look-up found is answered
  pub turn_stored : (dep_info : Option Bytes) (from : Bool) → (from ≡ true → IsSome w.direct) → (before after : ℕ) → after ≡ before → IsTold digest_of w.rec → (found : List Output) (pairs : Pairs) → answer ≡ Some pairs → found ≡ placed w.outputs pairs → KeyedTurn digest_of max_kept text_key (worked w) old asked before after (Ok (Outputs found (kept_how from) dep_info))
  turn_stored dep_info from direct before after same told found pairs held placed_is = record {
    gains = λ k v h. inl (asks.within k v h);
    faulted = tt;
    unrefused = tt;
    kept = asks_kept old asked key answer asks;
    cleared = asks.cleared;
    put = puts_none from asks.put;
    got = asks.got;
    told = hit from direct (
      pairs,
      placed_is,
      record {
        held = ap old.held (sym is_key) ∙ asks.within key pairs (sym asks.value ∙ held);
        steady = asks.steady (not_forgotten (old.held key) answer pairs held);
        no_compile = same;
        told = told;
      },
    );
  }
    where
      puts_none : (b : Bool) → asked.puts ≡ old.puts → PutsBy max_kept (Ok (Outputs found (kept_how b) dep_info)) old asked
      puts_none true h = h
      puts_none false h = h

      hit : (b : Bool) → (b ≡ true → IsSome w.direct) → Placed w found (StoredTurn digest_of text_key w old asked before after) → Told digest_of max_kept text_key w old asked before after (Ok (Outputs found (kept_how b) dep_info))
      hit true direct placed = (direct refl, placed)
      hit false direct placed = placed

  -- nothing was found
  lacked : answer ≡ None → (new : Shelf StoreKey Pairs) → new.forgets ≡ asked.forgets → (old.held (store_key_with digest_of w text_key) ≡ None) ⊎ (new.forgets ≡ ticked old.forgets)
  lacked none new same = elim (some_or_none (old.held key)) [
    | inl some ↦ inr (same ∙ asks.forgot (some, rw none refl))
    | inr not ↦ inl (ap old.held (sym is_key) ∙ not)
  ]

  module _ (none : answer ≡ None) (before mid after : ℕ) (steady : mid ≡ before) where
    miss : (new : Shelf StoreKey Pairs) → new.forgets ≡ asked.forgets → after ≡ ticked mid → MissTurn digest_of text_key w old new before after
    miss new same ran = record { lacked = lacked none new same; compile = ran ∙ ap ticked steady }

    told_fault : (fault : Fault) → RanOnce {A = Pairs} (Err fault) mid after → Told digest_of max_kept text_key w old asked before after (Err fault)
    told_fault fault ran = by_stage (stage_of fault) (λ o. elim o [
      | inl same ↦ inl (same ∙ steady)
      | inr once ↦ inr (miss asked refl once)
    ]) (λ n. absurd n) (λ once. miss asked refl once) ran

    got_fault : (fault : Fault) → RanOnce {A = Pairs} (Err fault) mid after → GetsBy (Err fault) old asked
    got_fault fault ran = by_stage (stage_of fault) (λ o. inr asks.got) (λ n. absurd n) (λ once. asks.got) ran

    -- the compile failed
    pub turn_compile_failed : (fault : Fault) → RanOnce {A = Pairs} (Err fault) mid after → (result : Result Answer Fault) → IsErrAnd result (λ f. f ≡ fault) → KeyedTurn digest_of max_kept text_key (worked w) old asked before after result
    turn_compile_failed fault ran result err =
        let p = err_from_is_err_and result err in
        rw (p.1, p.2) (record {
          gains = λ k v h. inl (asks.within k v h);
          faulted = asks.within;
          unrefused = λ was keys. asks.kept.1 (was, keys);
          kept = asks_kept old asked key answer asks;
          cleared = asks.cleared;
          put = asks.put;
          got = got_fault fault ran;
          told = told_fault fault ran;
        })

    -- the copy failed for memory
    pub turn_copy_failed : after ≡ ticked mid → (result : Result Answer Fault) → IsErrAnd result (λ f. f ≡ Memory) → KeyedTurn digest_of max_kept text_key (worked w) old asked before after result
    turn_copy_failed ran result err =
        let p = err_from_is_err_and result err in
        rw (p.1, p.2) (record {
          gains = λ k v h. inl (asks.within k v h);
          faulted = asks.within;
          unrefused = λ was keys. asks.kept.1 (was, keys);
          kept = asks_kept old asked key answer asks;
          cleared = asks.cleared;
          put = asks.put;
          got = inr asks.got;
          told = inr (miss asked refl ran);
        })

    -- where it's within the limit, one is put, and else none
    puts_within : (b : Bool) (new : Shelf StoreKey Pairs) (value : Pairs) (map : List Output) (dep_info : Option Bytes) → is_within max_kept (size_of value) ≡ b → map ≡ placed w.outputs value → new.puts ≡ (if b then ticked old.puts else old.puts) → PutsBy max_kept (Ok (Outputs map Fresh dep_info)) old new
    puts_within b new value map dep_info within same h =
        let size : size_in map ≡ size_of value = ap size_in same ∙ size_placed w.outputs value in
        subst (λ (x : Bool). new.puts ≡ (if x then ticked old.puts else old.puts)) (sym (ap (is_within max_kept) size ∙ within)) h

    -- a fresh output is put, and answered
    turn_fresh : (dep_info : Option Bytes) → after ≡ ticked mid → IsTold digest_of w.rec → (eq : StoreKey → StoreKey → Bool) → ((a b : StoreKey) → eq a b ≡ true → a ≡ b)
        → (new : Shelf StoreKey Pairs) (value : Pairs) (map : List Output) (put : Result (Unit {0}) (StoreKey × Pairs)) → is_within max_kept (size_of value) ≡ true → Puts eq asked new key value put → IsSuccess w value → map ≡ placed w.outputs value → KeyedTurn digest_of max_kept text_key (worked w) old new before after (Ok (Outputs map Fresh dep_info))
    turn_fresh dep_info ran told eq equal new value map put within puts made same = record {
      gains = λ k v h. elim (puts.gains k v h) [
        | inl was ↦ inl (asks.within k v was)
        | inr own ↦ inr (record { is_key = equal k key own.0 ∙ is_key; made = subst (IsSuccess w) (sym own.1) made; told = told })
      ];
      faulted = tt;
      unrefused = tt;
      kept = λ h. let p = puts.kept.0 h in let q = asks_kept old asked key answer asks p.0 in record { was = q.was; keys = λ k s. p.1 k (q.keys k s); steady = puts.steady ∙ q.steady };
      cleared = puts.cleared ∙ asks.cleared;
      put = puts_within true new value map dep_info within same (puts.put ∙ ap ticked asks.put);
      got = puts.got ∙ asks.got;
      told = (
        value,
        same,
        record {
          miss = miss new puts.steady ran;
          made = made;
          puts = λ fits. subst (λ (k : StoreKey). IsPut old new k value) is_key (is_put_of eq old asked new key value put asks.within puts);
          holds = λ h _. ap new.held (sym is_key) ∙ put_holds eq new key value asked put puts h;
          large = λ h. absurd (true≢false (sym within ∙ h));
        },
      );
    }

    -- one that is larger than the limit is answered alone
    turn_large : (dep_info : Option Bytes) → after ≡ ticked mid → (value : Pairs) (map : List Output) → is_within max_kept (size_of value) ≡ false → IsSuccess w value → map ≡ placed w.outputs value → KeyedTurn digest_of max_kept text_key (worked w) old asked before after (Ok (Outputs map Fresh dep_info))
    turn_large dep_info ran value map within made same = record {
      gains = λ k v h. inl (asks.within k v h);
      faulted = tt;
      unrefused = tt;
      kept = asks_kept old asked key answer asks;
      cleared = asks.cleared;
      put = puts_within false asked value map dep_info within same asks.put;
      got = asks.got;
      told = (
        value,
        same,
        record {
          miss = miss asked refl ran;
          made = made;
          puts = λ fits. absurd (true≢false (sym fits ∙ within));
          holds = λ h fits. absurd (true≢false (sym fits ∙ within));
          large = λ h. (asks.within, λ was keys. asks.kept.1 (was, keys));
        },
      );
    }

    -- either way
    pub turn_kept : (dep_info : Option Bytes) → after ≡ ticked mid → IsTold digest_of w.rec → (eq : StoreKey → StoreKey → Bool) → ((a b : StoreKey) → eq a b ≡ true → a ≡ b)
        → (new : Shelf StoreKey Pairs) (value : Pairs) (map : List Output) → IsKept eq (is_within max_kept (size_of value)) asked new key value → IsSuccess w value → map ≡ placed w.outputs value → KeyedTurn digest_of max_kept text_key (worked w) old new before after (Ok (Outputs map Fresh dep_info))
    turn_kept dep_info ran told eq equal new value map kept made same = by (is_within max_kept (size_of value)) refl kept
      where
        by : (b : Bool) → is_within max_kept (size_of value) ≡ b → IsKept eq b asked new key value → KeyedTurn digest_of max_kept text_key (worked w) old new before after (Ok (Outputs map Fresh dep_info))
        by true within k = turn_fresh dep_info ran told eq equal new value map k.0 within k.1 made same
        by false within k = subst (λ (s : Shelf StoreKey Pairs). KeyedTurn digest_of max_kept text_key (worked w) old s before after (Ok (Outputs map Fresh dep_info))) (sym k) (turn_large dep_info ran value map within made same)

-- a failure after calls that didn't fail
pub fails_in_later : {T : Type 0} (meaning : T → Meaning) (failed : T → ℕ) (fails_in : T → Step → T → Type 0) (old mid new : T) → meaning mid ≡ meaning old → failed mid ≡ failed old → (step : Step) → FailsIn meaning failed fails_in mid new step → FailsIn meaning failed fails_in old new step
fails_in_later meaning failed fails_in old mid new m f step h = record { from = h.from; same = h.same ∙ m; steady = h.steady ∙ f; ticks = h.ticks; leads = h.leads }

-- what didn't fail in calls, and then in others, didn't fail in all of them
steady_later : {T F A : Type 0} → (tool : ToolView T) (files : FilesView F) (tool_old tool_mid tool_new : T) (files_old files_mid files_new : F) → AreSteady tool files tool_old files_old tool_mid files_mid → (result : Result A Fault) → OnOk result (AreSteady tool files tool_mid files_mid tool_new files_new) → OnOk result (AreSteady tool files tool_old files_old tool_new files_new)
steady_later tool files tool_old tool_mid tool_new files_old files_mid files_new before (Ok x) h = (h.0 ∙ before.0, h.1 ∙ before.1)
steady_later tool files tool_old tool_mid tool_new files_old files_mid files_new before (Err fault) h = tt

-- what calls left as it was, and then the last one, all of them did
pub untouched_later : {T F A : Type 0} → (tool : ToolView T) (files : FilesView F) (tool_old tool_mid tool_new : T) (files_old files_mid files_new : F) → files.tree files_mid ≡ files.tree files_old → tool.meaning tool_mid ≡ tool.meaning tool_old → AreSteady tool files tool_old files_old tool_mid files_mid → (result : Result A Fault) → Untouched tool files tool_mid files_mid tool_new files_new result → Untouched tool files tool_old files_old tool_new files_new result
untouched_later tool files tool_old tool_mid tool_new files_old files_mid files_new tree meaning before result last = record {
  tree = last.tree ∙ tree;
  meaning = last.meaning ∙ meaning;
  steady = steady_later tool files tool_old tool_mid tool_new files_old files_mid files_new before result last.steady;
  still = λ own. let kept = last.still own in (kept.0 ∙ before.0, kept.1 ∙ before.1);
}

-- a fault that reports no I/O error is one before it is handed on
pub own_fault : {A : Type 0} → (B : Type 0) (result : Result A Fault) (fault : Fault) → IsErrAnd result (λ f. f ≡ fault) → HasOwnFault result → HasOwnFault {A = B} (Err fault)
own_fault {A} B (Ok x) fault err h = absurd err
own_fault {A} B (Err f) fault err h = subst (λ (e : Fault). HasOwnFault {A = B} (Err e)) err h

-- once the store is asked, memory can be refused
pub memory_finishes : (w : Work) (device_in : Step → Type 0) (result : Result Answer Fault) → IsErrAnd result (λ f. f ≡ Memory) → SaysFinished w device_in result
memory_finishes w device_in result err = let p = err_from_is_err_and result err in rw (p.1, p.2) tt

-- or the compile fails
pub fault_finishes : (w : Work) (device_in : Step → Type 0) (fault : Fault) → CompileCause w device_in fault → (result : Result Answer Fault) → IsErrAnd result (λ f. f ≡ fault) → SaysFinished w device_in result
fault_finishes w device_in fault cause result err = let p = err_from_is_err_and result err in rw (p.1, p.2) cause

-- the request isn't passed through any more
pub finished_unpassed : (P : Type 0) (w : Work) (device_in : Step → Type 0) (result : Result Answer Fault) → SaysFinished w device_in result → OnPass result P
finished_unpassed P w device_in (Ok (Pass reason)) says = absurd says
finished_unpassed P w device_in (Ok (Outputs map how dep_info)) says = tt
finished_unpassed P w device_in (Err fault) says = tt

-- where no request is passed through, whatever is said of one that is
pub unpassed : (P : Type 0) (result : Result Answer Fault) → OnPass result ⊥ → OnPass result P
unpassed P (Ok (Pass reason)) never = absurd never
unpassed P (Ok (Outputs map how dep_info)) never = tt
unpassed P (Err fault) never = tt

-- what is said then of the whole call
pub finished_says : (went_on : Type 0) (w : Work) (on_file : Bytes → Type 0) (device_in later_in : Step → Type 0) → ((step : Step) → later_in step → device_in step) → went_on → (result : Result Answer Fault) → SaysFinished w later_in result → SaysWorkedBy went_on w on_file device_in result
finished_says went_on w on_file device_in later_in more goes (Ok (Pass reason)) says = says
finished_says went_on w on_file device_in later_in more goes (Ok (Outputs map how dep_info)) says = (says, goes)
finished_says went_on w on_file device_in later_in more goes (Err fault) says = by_stage (stage_of fault) (λ u. u) (λ n. absurd n) (λ h. (goes, caused_more (compile_fault_of w) (compile_fault_of w) no_file no_file later_in device_in (λ f e. e) (λ name n. n) more fault h)) says

-- a fault that comes before there is a verdict is none of the compile
pub early_stage : (on_file : Bytes → Type 0) (fault : Fault) → EarlyCause on_file fault → ByStage (stage_of fault) (Unit {0}) (EarlyCause on_file fault) ⊥
early_stage on_file fault h = file_early None on_file fault h

-- a fault that comes before there is a verdict
pub early_says : (went_on : Work → Type 0) (a : Account) (on_file : Bytes → Type 0) (device_in : Step → Type 0) (fault : Fault) → EarlyCause on_file fault → (result : Result Answer Fault) → IsErrAnd result (λ f. f ≡ fault) → SaysBy went_on a on_file device_in result
early_says went_on a on_file device_in fault cause result err = let p = err_from_is_err_and result err in rw (p.1, p.2) (says a fault cause)
  where
    says : (b : Account) (f : Fault) → EarlyCause on_file f → SaysBy went_on b on_file device_in (Err f)
    says (passed why) f h = h
    says (worked w) f h = by_stage (stage_of f) (λ u. u) (caused_more None w.fault on_file on_file no_step device_in (λ g e. cc) (λ name d. d) (λ step n. absurd n) f) (λ n. absurd n) (early_stage on_file f h)

pub early_turn : (digest_of : Bytes → Bytes) (max_kept : Option ℕ) (text_key : Bytes) (a : Account) (shelf : Shelf StoreKey Pairs) (count : ℕ) (on_file : Bytes → Type 0) (fault : Fault) → EarlyCause on_file fault → (result : Result Answer Fault) → IsErrAnd result (λ f. f ≡ fault) → KeyedTurn digest_of max_kept text_key a shelf shelf count count result
early_turn digest_of max_kept text_key a shelf count on_file fault cause result err = let p = err_from_is_err_and result err in rw (p.1, p.2) (record {
  gains = λ key pairs h. inl h;
  faulted = λ key pairs h. h;
  unrefused = λ was keys. was;
  kept = λ h. record { was = h; keys = λ key s. s; steady = refl };
  cleared = refl;
  put = refl;
  got = got fault cause;
  told = told a fault cause;
})
  where
    got : (f : Fault) → EarlyCause on_file f → GetsBy (Err f) shelf shelf
    got f h = by_stage (stage_of f) (λ u. inl refl) (λ c. refl) (λ n. absurd n) (early_stage on_file f h)

    told : (b : Account) (f : Fault) → EarlyCause on_file f → ToldBy digest_of max_kept text_key b shelf shelf count count (Err f)
    told (passed why) f h = (refl, refl)
    told (worked w) f h = by_stage (stage_of f) (λ u. inl refl) (λ c. (refl, refl)) (λ n. absurd n) (early_stage on_file f h)

-- what holds of the work that the words ask for holds of the request's account
pub of_asked : (P : Account → Type 0) (meaning : Meaning) (later tree : Tree) (settings : Settings) (found : CFound) (request : Request) (p : ParsedArguments) (d : Judgement) → later ≡ tree → verdicts.asks p ≡ d → P (worked (work_at meaning (call_at found request later settings p))) → P (account_by meaning tree settings found request d)
of_asked P meaning later tree settings found request p d same decided h =
    let moved : P (account_by meaning tree settings found request (verdicts.asks p)) = subst (λ (t : Tree). P (worked (work_at meaning (call_at found request t settings p)))) same h in
    subst (λ (j : Judgement). P (account_by meaning tree settings found request j)) decided moved

-- what is said of files as they were before
pub says_later : (went_on : Type 0) (w : Work) (one other : Bytes → Type 0) (device_in : Step → Type 0) → ((name : Bytes) → one name → other name) → (result : Result Answer Fault) → SaysWorkedBy went_on w one device_in result → SaysWorkedBy went_on w other device_in result
says_later went_on w one other device_in more (Ok (Pass reason)) h = h
says_later went_on w one other device_in more (Ok (Outputs map how dep_info)) h = h
says_later went_on w one other device_in more (Err fault) h = by_stage (stage_of fault) (λ u. u) (caused_more w.fault w.fault one other device_in device_in (λ f e. e) more (λ step d. d) fault) (λ c. c) h

-- there is no key
pub key_turn : (digest_of : Bytes → Bytes) (max_kept : Option ℕ) (text_key : Bytes) (w : Work) (first : Option Fault) (shelf : Shelf StoreKey Pairs) (before after : ℕ) → after ≡ before → (on_file : Bytes → Type 0) (device_in : Step → Type 0) (fault : Fault) → KeyCause first on_file device_in fault → (result : Result Answer Fault) → IsErrAnd result (λ f. f ≡ fault) → KeyedTurn digest_of max_kept text_key (worked w) shelf shelf before after result
key_turn digest_of max_kept text_key w first shelf before after same on_file device_in fault cause result err = let p = err_from_is_err_and result err in rw (p.1, p.2) (record {
  gains = λ key pairs h. inl h;
  faulted = λ key pairs h. h;
  unrefused = λ was keys. was;
  kept = λ h. record { was = h; keys = λ key s. s; steady = refl };
  cleared = refl;
  put = refl;
  got = got fault cause;
  told = told fault cause;
})
  where
    got : (f : Fault) → KeyCause first on_file device_in f → GetsBy (Err f) shelf shelf
    got f h = by_stage (stage_of f) (λ u. inl refl) (λ c. refl) (λ n. absurd n) h

    told : (f : Fault) → KeyCause first on_file device_in f → Told digest_of max_kept text_key w shelf shelf before after (Err f)
    told f h = by_stage (stage_of f) (λ u. inl same) (λ c. (refl, same)) (λ n. absurd n) h

pub key_says : (went_on : Type 0) (w : Work) (on_file : Bytes → Type 0) (device_in : Step → Type 0) (fault : Fault) → KeyCause w.fault on_file device_in fault → (result : Result Answer Fault) → IsErrAnd result (λ f. f ≡ fault) → SaysWorkedBy went_on w on_file device_in result
key_says went_on w on_file device_in fault cause result err = let p = err_from_is_err_and result err in rw (p.1, p.2) (by_stage (stage_of fault) (λ u. u) (λ c. c) (λ n. absurd n) cause)

module _ (digest_of : Bytes → Bytes) (w : Work) (p : PrintedCall) (fault_is : w.fault ≡ key_fault_by p) (held : Held) (from : Bool) (text_key : Bytes) (is_key : WorkKeyFrom digest_of w held from text_key) (fine : KeyFine p from) where
  -- a call that has its key goes on
  pub goes_on : GoesOn w
  goes_on = by from is_key fine
    where
      none_goes : (o : Option PrintedCall) (f : Option Fault) → f ≡ None → GoesOnWith o f
      none_goes None f h = h
      none_goes (Some q) f h = rw h tt

      by : (b : Bool) → WorkKeyFrom digest_of w held b text_key → KeyFine p b → GoesOn w
      by true k h = rw k.has (subst IsSpared (sym fault_is) h)
      by false k h = none_goes w.direct w.fault (fault_is ∙ h)

  -- and has no fault, where the records are true of it
  pub own_goes_on : RecordsAreTrue digest_of (worked w) held → w.fault ≡ None
  own_goes_on are_true = by from is_key fine
    where
      by : (b : Bool) → WorkKeyFrom digest_of w held b text_key → KeyFine p b → w.fault ≡ None
      by true k h = spared_none w.fault (subst IsSpared (sym fault_is) h) (are_true text_key k).succeeds
      by false k h = fault_is ∙ h

-- a key's run of the preprocessor is one at most
pub runs_most : (from : Bool) (before after : ℕ) → KeyRuns from before after → AtMostOnce before after
runs_most true before after h = inl h
runs_most false before after h = inr h

-- before a fault of the compile
pub compile_until : (w : Work) (device_in : Step → Type 0) (from : Bool) (before after : ℕ) (fault : Fault) → CompileCause w device_in fault → KeyRuns from before after → RunsUntil fault (KeyRuns from before after) before after
compile_until w device_in from before after fault cause h = by (cause_of fault) cause
  where
    by : (why : Cause) → ByStage (stage_by why) (Unit {0}) ⊥ (IsCausedBy (compile_fault_of w) no_file device_in fault why) → RunsUntilStep (step_by why) (KeyRuns from before after) before after
    by of_memory c = runs_most from before after h
    by (of_file name) c = absurd c
    by (of_tool Preprocess) c = absurd c
    by (of_tool Compile) c = h
    by (of_tool DepInfo) c = absurd c
    by (of_tool FileNames) c = absurd c
    by (of_tool ArchiveDigest) c = absurd c
    by (of_key step) c = absurd c
    by of_compile c = h

-- a call that ends with a fault
pub asked_fault : (digest_of : Bytes → Bytes) (max_kept : Option ℕ) (a : Account) (old new : Shelves) (printed printed_new compiled compiled_new : ℕ) (result : Result Answer Fault) (fault : Fault) → IsErrAnd result (λ f. f ≡ fault) → (Q : Type 0) → ByStage (stage_of fault) (Unit {0}) Q ⊥ → OnUnkeyed {A = Answer} (Err fault) (PutsNone old.entries new.entries) → (from : Bool) (text_key : Bytes) → AskedUnder digest_of a old.entries.held from text_key → RunsOf {A = Answer} a from (Err fault) printed printed_new → KeyedTurn digest_of max_kept text_key a old.objects new.objects compiled compiled_new result → AskedTurn digest_of max_kept a old new printed printed_new compiled compiled_new result
asked_fault digest_of max_kept a old new printed printed_new compiled compiled_new (Ok answer) fault err Q stage unput from text_key is_key runs turn = absurd err
asked_fault digest_of max_kept (passed why) old new printed printed_new compiled compiled_new (Err f) fault err Q stage unput from text_key is_key runs turn = record { from = from; text_key = text_key; is_key = is_key; how = tt; fine = tt; runs = runs; recorded = tt; unput = subst (λ (e : Fault). OnUnkeyed {A = Answer} (Err e) (PutsNone old.entries new.entries)) (sym err) unput; objects = turn }
asked_fault digest_of max_kept (worked w) old new printed printed_new compiled compiled_new (Err f) fault err Q stage unput from text_key is_key runs turn = record { from = from; text_key = text_key; is_key = is_key; how = tt; fine = tt; runs = subst (λ (e : Fault). RunsOf {A = Answer} (worked w) from (Err e) printed printed_new) (sym err) runs; recorded = by_stage (stage_of f) (λ u. u) (λ c. tt) (λ n. absurd n) (subst (λ (e : Fault). ByStage (stage_of e) (Unit {0}) Q ⊥) (sym err) stage); unput = subst (λ (e : Fault). OnUnkeyed {A = Answer} (Err e) (PutsNone old.entries new.entries)) (sym err) unput; objects = turn }

-- a hit
pub how_kept : (from : Bool) (map : List Output) (dep_info : Option Bytes) → HowFrom from (Ok (Outputs map (kept_how from) dep_info))
how_kept true map dep_info = refl
how_kept false map dep_info = refl

pub how_of_fault : (from : Bool) (fault : Fault) (result : Result Answer Fault) → IsErrAnd result (λ f. f ≡ fault) → HowFrom from result
how_of_fault from fault result err = let p = err_from_is_err_and result err in rw p.1 tt

pub has_direct : (digest_of : Bytes → Bytes) (w : Work) (held : Held) (from : Bool) (text_key : Bytes) → WorkKeyFrom digest_of w held from text_key → from ≡ true → IsSome w.direct
has_direct digest_of w held true text_key k h = rw k.has refl
has_direct digest_of w held false text_key k h = cc

-- so often it ran where outputs are answered, and where the compile has a fault
ran_with : (r : CallRecord) (answer : Answer) (from : Bool) (before after : ℕ) → RanForKey r from before after → RunsOfRecord r from (Ok answer) before after
ran_with (of_c r) answer from before after ran = ran
ran_with (of_rustc r) answer from before after ran = ran

ran_until : (r : CallRecord) (from : Bool) (before after : ℕ) (fault : Fault) → (KeyRuns from before after → RunsUntil fault (KeyRuns from before after) before after) → RanForKey r from before after → RunsOfRecord {A = Answer} r from (Err fault) before after
ran_until (of_c r) from before after fault until ran = (ran.0, λ h. until (ran.1 h))
ran_until (of_rustc r) from before after fault until ran = inr (inr ran)

module _ (digest_of : Bytes → Bytes) (max_kept : Option ℕ) (w : Work) (old new : Shelves) (printed printed_new compiled compiled_new : ℕ) (from : Bool) (text_key : Bytes) (is_key : WorkKeyFrom digest_of w old.entries.held from text_key)
    (fine : from ≡ false → w.fault ≡ None) (runs : RanForKey w.rec from printed printed_new) (early : StopsEarly w printed printed_new) (recorded : (p : PrintedCall) → w.direct ≡ Some p → KeyRecorded digest_of p old.entries new.entries from text_key) where
  -- however the request is finished
  pub asked_finished : (device_in : Step → Type 0) (result : Result Answer Fault) → SaysFinished w device_in result → HowFrom from result → KeyedTurn digest_of max_kept text_key (worked w) old.objects new.objects compiled compiled_new result → AskedTurn digest_of max_kept (worked w) old new printed printed_new compiled compiled_new result
  asked_finished device_in (Ok (Pass reason)) says how turn = absurd says
  asked_finished device_in (Ok (Outputs map kept dep_info)) says how turn = record { from = from; text_key = text_key; is_key = is_key; how = how; fine = fine; runs = (ran_with w.rec _ from _ _ runs, early); recorded = recorded; unput = tt; objects = turn }
  asked_finished device_in (Err fault) says how turn = record { from = from; text_key = text_key; is_key = is_key; how = tt; fine = tt; runs = (ran_until w.rec from _ _ fault (compile_until w device_in from _ _ fault says) runs, early); recorded = by_stage (stage_of fault) (λ u. u) (λ n. absurd n) (λ c. recorded) says; unput = by_stage (stage_of fault) (λ u. u) (λ n. absurd n) (λ c. tt) says; objects = turn }

-- its own key, where there is no other
pub own_asked : (digest_of : Bytes → Bytes) (a : Account) (held : Held) → AskedUnder digest_of a held false (own_text_key digest_of a)
own_asked digest_of (passed why) held = tt
own_asked digest_of (worked w) held = refl

-- records that stay as they are, before a fault that comes before there is a verdict
pub early_unput : (on_file : Bytes → Type 0) (fault : Fault) (s : Shelf EntryKey Record) → EarlyCause on_file fault → OnUnkeyed {A = Answer} (Err fault) (PutsNone s s)
early_unput on_file fault s h = by_stage (stage_of fault) (λ u. u) (λ c. record { within = λ k e h. h; put = refl }) (λ n. absurd n) (early_stage on_file fault h)

-- a call that asks no store
pub quiet_entries : (digest_of : Bytes → Bytes) (a : Account) (s : Shelf EntryKey Record) (n : ℕ) → EntriesTurn digest_of a s s n n
quiet_entries digest_of a s n = by (direct_of a)
  where
    by : (o : Option PrintedCall) → EntriesBy digest_of o s s n n
    by None = refl
    by (Some p) = record { gains = λ k e h. inl h; kept = λ h. record { was = h; keys = λ k i. i; steady = refl }; cleared = refl; put = inl (record { within = λ k e h. h; put = refl }); asked = λ k m. inl refl; got = inl refl; got_first = λ h ran. absurd (ran refl); idle = λ h. refl }

pub text_fine : (w : Work) (p : PrintedCall) → w.fault ≡ key_fault_by p → (from : Bool) → KeyFine p from → from ≡ false → w.fault ≡ None
text_fine w p fault_is true fine h = cc
text_fine w p fault_is false fine h = fault_is ∙ fine
