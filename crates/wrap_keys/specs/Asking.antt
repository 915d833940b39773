-- One call of a session over both stores: under which key it asks, and what it does to the include records.
use Rattle.std.specs.Prelude.{◌≡◌, ◌⊎◌, ℕ, ℤ, Bool, true, false, Option, None, Some, Result, Ok, Err}
use Rattle.base_files.specs.Bytes.{Bytes, ticked}
use Rattle.ckeys_base.specs.Shelf.{Shelf}
use Rattle.ckeys.specs.Calls.{PrintedCall, key_fault_by, needs_preprocessing, record_by}
use Rattle.ckeys.specs.Entries.{HasMatch, Held, IsFramed}
use Rattle.ckeys.specs.EntryTurns.{EntryTurn, KeyRecorded, KeyRuns, PutsNone, RunsUntil}
use Rattle.ckeys_records.specs.Causes.{ByStage, stage_of}
use Rattle.ckeys_records.specs.Folders.{Settings}
use Rattle.ckeys_records.specs.Meaning.{AtMostOnce}
use Rattle.ckeys_include_records.specs.declared.entry_key.EntryKey.{EntryKey}
use Rattle.ckeys_include_records.specs.Records.{Record}
use Rattle.ckeys_records.specs.declared.fault.Fault.{Fault}
use Rattle.ckeys_records.specs.declared.fault.Fault.TheVariants.{PreprocessFailed}
use Rattle.wrap_keys.specs.CallRecords.{CallRecord, key_of, of_c, of_rustc}
use Rattle.wrap_keys.specs.Account.{Account, passed, worked, Work, Pairs, direct_of}
use Rattle.wrap_keys.specs.Turn.{KeyedTurn}
use Rattle.wrap_base.specs.declared.answer.Answer.{Answer}
use Rattle.wrap_base.specs.declared.answer.Answer.TheVariants.{Pass, Outputs}
use Rattle.wrap_base.specs.declared.answer.How.TheVariants.{Direct, Stored, Fresh}
use Rattle.wrap_base.specs.declared.store_key.StoreKey.{StoreKey}

-- both stores
pub record Shelves : Type 0 where
  pub entries : Shelf EntryKey Record
  pub objects : Shelf StoreKey Pairs

abbrev pub shelves_of : Shelf EntryKey Record → Shelf StoreKey Pairs → Shelves
shelves_of entries objects = record { entries = entries; objects = objects }

-- a matching result with this text key is held under the call's entry key
pub record MatchesFor (digest_of : Bytes → Bytes) (w : Work) (held : Held) (text_key : Bytes) : Type 0 where
  pub p : PrintedCall
  pub has : w.direct ≡ Some p
  pub framed : IsFramed digest_of p.call
  pub match : HasMatch digest_of p.call held text_key

-- it is true of the call: it has the key of the call's record, and the preprocessor doesn't fail
pub record TrueFor (digest_of : Bytes → Bytes) (w : Work) (text_key : Bytes) : Type 0 where
  pub is_key : text_key ≡ key_of digest_of w.rec
  pub succeeds : (status : ℤ) → w.fault ≡ Some (PreprocessFailed status) → ⊥

-- Records are true of a call: each matching result that is held is. That needs no saying of a call that has no entry key.
abbrev pub RecordsAreTrue : (Bytes → Bytes) → Account → Held → Type 0
RecordsAreTrue digest_of (passed why) held = Unit {0}
RecordsAreTrue digest_of (worked w) held = (text_key : Bytes) → MatchesFor digest_of w held text_key → TrueFor digest_of w text_key

-- what a work says of include records is of its own call, under this configuration
pub record IsOfCall (settings : Settings) (w : Work) (p : PrintedCall) : Type 0 where
  pub settled : p.call.settings ≡ settings
  pub rec : w.rec ≡ of_c (record_by p)
  pub fault : w.fault ≡ key_fault_by p

abbrev pub IsOfOneCall : Settings → Account → Type 0
IsOfOneCall settings (passed why) = Unit {0}
IsOfOneCall settings (worked w) = (p : PrintedCall) → w.direct ≡ Some p → IsOfCall settings w p

-- where the key comes from under which the object store is asked: a matching result, or the call's own text
abbrev pub WorkKeyFrom : (Bytes → Bytes) → Work → Held → Bool → Bytes → Type 0
WorkKeyFrom digest_of w held true text_key = MatchesFor digest_of w held text_key
WorkKeyFrom digest_of w held false text_key = text_key ≡ key_of digest_of w.rec

abbrev pub AskedUnder : (Bytes → Bytes) → Account → Held → Bool → Bytes → Type 0
AskedUnder digest_of (passed why) held from text_key = Unit {0}
AskedUnder digest_of (worked w) held from text_key = WorkKeyFrom digest_of w held from text_key

-- a hit is direct exactly if a record gave the key
abbrev pub HowFrom : Bool → Result Answer Fault → Type 0
HowFrom from (Ok (Pass reason)) = Unit {0}
HowFrom from (Ok (Outputs map Direct dep_info)) = from ≡ true
HowFrom from (Ok (Outputs map Stored dep_info)) = from ≡ false
HowFrom from (Ok (Outputs map Fresh dep_info)) = Unit {0}
HowFrom from (Err fault) = Unit {0}

-- a fact where there are outputs
abbrev pub OnOutputs : Account → Result Answer Fault → (Work → Type 0) → Type 0
OnOutputs (passed why) result P = Unit {0}
OnOutputs (worked w) (Ok (Pass reason)) P = Unit {0}
OnOutputs (worked w) (Ok (Outputs map how dep_info)) P = P w
OnOutputs (worked w) (Err fault) P = Unit {0}

-- how often the preprocessor ran in a call whose key came from there, before its outputs or before its fault
abbrev pub RunsIn : {A : Type 0} → Bool → Result A Fault → ℕ → ℕ → Type 0
RunsIn from (Ok answer) before after = KeyRuns from before after
RunsIn from (Err fault) before after = RunsUntil fault (KeyRuns from before after) before after

-- how often rustc was asked: twice before its outputs, and at most that before a fault
abbrev pub IsAskedTwice : {A : Type 0} → Result A Fault → ℕ → ℕ → Type 0
IsAskedTwice (Ok answer) before after = after ≡ ticked (ticked before)
IsAskedTwice (Err fault) before after = (after ≡ before) ⊎ ((after ≡ ticked before) ⊎ (after ≡ ticked (ticked before)))

-- how often the preprocessor ran in a call of that record: not where the input's language isn't preprocessed, and else once, unless a record gave the key or a fault came before it; of rustc, how often it was asked
abbrev pub RunsOfRecord : {A : Type 0} → CallRecord → Bool → Result A Fault → ℕ → ℕ → Type 0
RunsOfRecord (of_c r) from result before after = (needs_preprocessing r.language ≡ false → after ≡ before) × (needs_preprocessing r.language ≡ true → RunsIn from result before after)
RunsOfRecord (of_rustc r) from result before after = IsAskedTwice result before after

-- a fact where the call has its key: there are outputs, or a fault of the compile
abbrev pub OnKeyed : Account → Result Answer Fault → (Work → Type 0) → Type 0
OnKeyed (passed why) result P = Unit {0}
OnKeyed (worked w) (Ok (Pass reason)) P = Unit {0}
OnKeyed (worked w) (Ok (Outputs map how dep_info)) P = P w
OnKeyed (worked w) (Err fault) P = ByStage (stage_of fault) (Unit {0}) (Unit {0}) (P w)

-- a fact where a fault comes before the compile
abbrev pub OnUnkeyed : {A : Type 0} → Result A Fault → Type 0 → Type 0
OnUnkeyed (Ok answer) P = Unit {0}
OnUnkeyed (Err fault) P = ByStage (stage_of fault) (Unit {0}) P (Unit {0})

-- how often it ran before the store of outputs is asked, where the call has its key
abbrev pub RanForKey : CallRecord → Bool → ℕ → ℕ → Type 0
RanForKey (of_c r) from before after = (needs_preprocessing r.language ≡ false → after ≡ before) × (needs_preprocessing r.language ≡ true → KeyRuns from before after)
RanForKey (of_rustc r) from before after = after ≡ ticked (ticked before)

-- Where a fault comes before the text, the preprocessor didn't run; where one comes before rustc is asked for names, that was asked once at most.
abbrev pub RunsEarly : CallRecord → ℕ → ℕ → Type 0
RunsEarly (of_c r) before after = after ≡ before
RunsEarly (of_rustc r) before after = AtMostOnce before after

abbrev pub StopsEarly : Work → ℕ → ℕ → Type 0
StopsEarly w before after = (w.early ≡ None → ⊥) → RunsEarly w.rec before after

-- How often it ran: not where the request is passed through.
abbrev pub RunsOf : {A : Type 0} → Account → Bool → Result A Fault → ℕ → ℕ → Type 0
RunsOf (passed why) from result before after = after ≡ before
RunsOf (worked w) from result before after = RunsOfRecord w.rec from result before after × StopsEarly w before after

-- One call: under which key it asks the object store and what it does to that, whatever the records hold; and how often the preprocessor ran. Where the key came from the text and outputs are answered, the call has no fault before the store is asked; and a text that is recorded is found under this key again, whatever comes of the compile. A call that has no key puts no record, so a refused put of one is no fault.
pub record AskedTurn (digest_of : Bytes → Bytes) (max_kept : Option ℕ) (a : Account) (old new : Shelves) (printed printed_new compiled compiled_new : ℕ) (result : Result Answer Fault) : Type 0 where
  pub from : Bool
  pub text_key : Bytes
  pub is_key : AskedUnder digest_of a old.entries.held from text_key
  pub how : HowFrom from result
  pub fine : OnOutputs a result (λ w. from ≡ false → w.fault ≡ None)
  pub runs : RunsOf a from result printed printed_new
  pub recorded : OnKeyed a result (λ w. (p : PrintedCall) → w.direct ≡ Some p → KeyRecorded digest_of p old.entries new.entries from text_key)
  pub unput : OnUnkeyed result (PutsNone old.entries new.entries)
  pub objects : KeyedTurn digest_of max_kept text_key a old.objects new.objects compiled compiled_new result

-- what one call does to the include records: nothing where it has no entry key
abbrev pub EntriesBy : (Bytes → Bytes) → Option PrintedCall → Shelf EntryKey Record → Shelf EntryKey Record → ℕ → ℕ → Type 0
EntriesBy digest_of None old new printed printed_new = new ≡ old
EntriesBy digest_of (Some p) old new printed printed_new = EntryTurn digest_of p old new printed printed_new

abbrev pub EntriesTurn : (Bytes → Bytes) → Account → Shelf EntryKey Record → Shelf EntryKey Record → ℕ → ℕ → Type 0
EntriesTurn digest_of a old new printed printed_new = EntriesBy digest_of (direct_of a) old new printed printed_new
