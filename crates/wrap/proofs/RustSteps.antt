-- Calls to rustc, which ask for no include records.
use Rattle.std.proofs.Common.{◌≡◌, ℕ, Bool, not, [], Option, None, Some, true, false, Result, Ok, Err, refl}
use Rattle.base_files.specs.Bytes.{Bytes}
use Rattle.base_files.specs.Tree.{Tree}
use Rattle.ckeys_base.specs.Shelf.{Shelf}
use Rattle.ckeys.specs.Calls.{PrintedCall}
use Rattle.ckeys.specs.EntryTurns.{KeyRecorded, PutsNone}
use Rattle.ckeys_records.specs.Causes.{ByStage, Stage, any_time, before_compile, in_compile, stage_of}
use Rattle.ckeys_records.specs.Meaning.{Meaning}
use Rattle.ckeys_records.specs.declared.fault.Fault.{Fault}
use Rattle.ckeys_records.specs.declared.step.Step.{Step}
use Rattle.ckeys_include_records.specs.declared.entry_key.EntryKey.{EntryKey}
use Rattle.ckeys_include_records.specs.Records.{Record}
use Rattle.rustc_compiler.specs.Compiler.{Rustc}
use Rattle.wrap_keys.specs.Account.{Account, Pairs, Work, rust_account_by, rust_call_at, rust_work_at, worked}
use Rattle.wrap_keys.specs.Answers.{GoesOn, Says, SaysBy}
use Rattle.wrap_keys.specs.Asking.{AskedTurn, EntriesTurn, HowFrom, OnKeyed, OnOutputs, OnUnkeyed, RunsOf, shelves_of}
use Rattle.wrap_keys.specs.CallRecords.{key_of}
use Rattle.wrap_keys.specs.RustVerdicts.{RustJudgement, asks, passes}
use Rattle.wrap_keys.specs.Turn.{StoreTurn}
use Rattle.wrap_base.specs.declared.answer.Answer.{Answer}
use Rattle.wrap_base.specs.declared.answer.Answer.TheVariants.{Outputs, Pass}
use Rattle.wrap_base.specs.declared.request.Request.{Request}
use Rattle.wrap_base.specs.declared.store_key.StoreKey.{StoreKey}

module _ (digest_of : Bytes → Bytes) (meaning : Meaning) (tree : Tree) (rust : Rustc) (request : Request) where
  abbrev account : RustJudgement → Account
  account d = rust_account_by meaning tree rust request d

  -- to go on is to have no fault
  pub rust_says : (d : RustJudgement) (on_file : Bytes → Type 0) (device_in : Step → Type 0) (result : Result Answer Fault) → Says (account d) on_file device_in result → SaysBy GoesOn (account d) on_file device_in result
  rust_says (passes why) on_file device_in result says = says
  rust_says (asks asked) on_file device_in result says = says

  -- the include records stay as they are
  pub rust_quiet : (d : RustJudgement) (s : Shelf EntryKey Record) (before after : ℕ) → EntriesTurn digest_of (account d) s s before after
  rust_quiet (passes why) s before after = refl
  rust_quiet (asks asked) s before after = refl

  -- outputs mean that there is no fault
  fine_by : (w : Work) (on_file : Bytes → Type 0) (device_in : Step → Type 0) (result : Result Answer Fault) → Says (worked w) on_file device_in result → OnOutputs (worked w) result (λ v. false ≡ false → v.fault ≡ None)
  fine_by w on_file device_in (Ok (Pass reason)) says = tt
  fine_by w on_file device_in (Ok (Outputs map how dep_info)) says = λ h. says.1
  fine_by w on_file device_in (Err fault) says = tt

  recorded_by : (w : Work) (entries : Shelf EntryKey Record) (text_key : Bytes) → w.direct ≡ None → (result : Result Answer Fault) → OnKeyed (worked w) result (λ v. (p : PrintedCall) → v.direct ≡ Some p → KeyRecorded digest_of p entries entries false text_key)
  recorded_by w entries text_key none (Ok (Pass reason)) = tt
  recorded_by w entries text_key none (Ok (Outputs map how dep_info)) = λ p h. cc
  recorded_by w entries text_key none (Err fault) = by (stage_of fault)
    where
      by : (s : Stage) → ByStage s (Unit {0}) (Unit {0}) ((p : PrintedCall) → w.direct ≡ Some p → KeyRecorded digest_of p entries entries false text_key)
      by any_time = tt
      by before_compile = tt
      by in_compile = λ p h. cc

  unput_by : (entries : Shelf EntryKey Record) (result : Result Answer Fault) → OnUnkeyed result (PutsNone entries entries)
  unput_by entries (Ok answer) = tt
  unput_by entries (Err fault) = by (stage_of fault)
    where
      by : (s : Stage) → ByStage s (Unit {0}) (PutsNone entries entries) (Unit {0})
      by any_time = tt
      by before_compile = record { within = λ k e h. h; put = refl }
      by in_compile = tt

  -- the object store is asked under the call's own key
  pub rust_asked : (max_kept : Option ℕ) (d : RustJudgement) (entries : Shelf EntryKey Record) (old new : Shelf StoreKey Pairs) (printed printed_new compiled compiled_new : ℕ) (on_file : Bytes → Type 0) (device_in : Step → Type 0) (result : Result Answer Fault)
      → Says (account d) on_file device_in result → HowFrom false result → RunsOf (account d) false result printed printed_new → StoreTurn digest_of max_kept (account d) old new compiled compiled_new result
      → AskedTurn digest_of max_kept (account d) (shelves_of entries old) (shelves_of entries new) printed printed_new compiled compiled_new result
  rust_asked max_kept (passes why) entries old new printed printed_new compiled compiled_new on_file device_in result says how runs turn = record { from = false; text_key = []; is_key = tt; how = how; fine = tt; runs = runs; recorded = tt; unput = unput_by entries result; objects = turn }
  rust_asked max_kept (asks asked) entries old new printed printed_new compiled compiled_new on_file device_in result says how runs turn =
      let w = rust_work_at meaning (rust_call_at rust request tree asked) in
      record { from = false; text_key = key_of digest_of w.rec; is_key = refl; how = how; fine = fine_by w on_file device_in result says; runs = runs; recorded = recorded_by w entries (key_of digest_of w.rec) refl result; unput = unput_by entries result; objects = turn }
