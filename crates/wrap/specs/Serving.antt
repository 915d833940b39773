-- One call of a session, by the request, the files and the tool as it begins and as it ends.
use Rattle.std.specs.Prelude.{◌≡◌, ℕ, true, List, [], ◌∷◌, ◌++◌, Option, Result}
use Rattle.base_files.specs.Bytes.{Bytes}
use Rattle.base_files.specs.Views.{FilesView}
use Rattle.ckeys_base.specs.Shelf.{IsEmpty, Shelf}
use Rattle.ckeys.specs.Entries.{EntryInvariant, EntryPremises}
use Rattle.ckeys_records.specs.Folders.{Settings}
use Rattle.ckeys_records.specs.Views.{ToolView}
use Rattle.ckeys_records.specs.declared.fault.Fault.{Fault}
use Rattle.ckeys_include_records.specs.declared.entry_key.EntryKey.{EntryKey}
use Rattle.ckeys_include_records.specs.Records.{Record}
use Rattle.wrap_keys.specs.Account.{Account, account_at, direct_calls}
use Rattle.wrap_keys.specs.Answers.{Answers}
use Rattle.wrap_keys.specs.Asking.{RecordsAreTrue, Shelves}
use Rattle.wrap_keys.specs.StoreKeys.{Invariant, Premises}
use Rattle.wrap_keys.specs.Whole.{AllAnswer, CallTurn, Served, accounts_at, end_of}
use Rattle.wrap_base.specs.declared.answer.Answer.{Answer}
use Rattle.wrap_base.specs.declared.call.Call.{Call}
use Rattle.wrap_base.specs.declared.request.Request.{Request}

-- a request on these files, by that tool
abbrev pub call_of : {F T : Type 0} → Request → F → T → Call F T
call_of request files tool = record { request = request; files = files; tool = tool }

-- of calls on such files, by such tools
module _ {F T : Type 0} (settings : Settings) (files : FilesView F) (tool : ToolView T) where
  abbrev pub account_of : Call F T → Account
  account_of c = account_at (tool.meaning c.tool) (files.tree c.files) settings c.request

  -- a call is one turn over both stores
  abbrev pub IsTurn : (Bytes → Bytes) → Option ℕ → Shelves → Shelves → Call F T → Call F T → Result Answer Fault → Type 0
  IsTurn digest_of max_kept old new begin end result = CallTurn digest_of max_kept settings (account_of begin) old new (end_of settings files tool begin) (end_of settings files tool end) result

  -- no records are kept; or there are none yet, digests are distinct and texts are printed again
  abbrev pub BeginTrue : (Bytes → Bytes) → Shelf EntryKey Record → List (Call F T) → Type 0
  BeginTrue digest_of entries calls = settings.direct ≡ true → IsEmpty entries × EntryPremises digest_of (direct_calls (accounts_at settings files tool calls))

-- Whatever calls were served before: the stores hold what is of those and of this one, and its outputs are fresh ones.
pub record KeepsHistory (digest_of : Bytes → Bytes) (settings : Settings) (a : Account) (old new : Shelves) (result : Result Answer Fault) : Type 0 where
  -- calls that meet the invariant of the records do so with this one after them
  pub records : (earlier : List Account) → EntryInvariant digest_of settings (direct_calls earlier) old.entries.held → EntryInvariant digest_of settings (direct_calls (earlier ++ a ∷ [])) new.entries.held
  -- then the records are true of this call, where digests are distinct and texts are printed again; and so they are where none are kept
  pub agree : (earlier : List Account) → (settings.direct ≡ true → EntryInvariant digest_of settings (direct_calls earlier) old.entries.held × EntryPremises digest_of (direct_calls (earlier ++ a ∷ []))) → RecordsAreTrue digest_of a old.entries.held
  -- where they are, calls that meet the invariant of the outputs do so with this one after them
  pub invariant : RecordsAreTrue digest_of a old.entries.held → (earlier : List Account) → Invariant digest_of earlier old.objects.held → Invariant digest_of (earlier ++ a ∷ []) new.objects.held
  -- and outputs are those that the compiler gives afresh
  pub outputs : RecordsAreTrue digest_of a old.entries.held → (earlier : List Account) → Invariant digest_of earlier old.objects.held → Premises digest_of (earlier ++ a ∷ []) → Answers a result

-- where records are kept they are those of earlier calls; and digests are distinct and texts are printed again, over those calls and these
abbrev pub RecordsAreOf : (Bytes → Bytes) → Settings → List Account → List Account → Shelf EntryKey Record → Type 0
RecordsAreOf digest_of settings earlier calls entries = settings.direct ≡ true → EntryInvariant digest_of settings (direct_calls earlier) entries.held × EntryPremises digest_of (direct_calls (earlier ++ calls))

-- Whatever calls were served before: the stores hold what is of those and of these, and the outputs of these are fresh ones.
pub record KeepsHistories (digest_of : Bytes → Bytes) (settings : Settings) (calls : List Account) (run : List Served) (old new : Shelves) : Type 0 where
  -- calls that meet the invariant of the records do so with these after them
  pub records : (earlier : List Account) → EntryInvariant digest_of settings (direct_calls earlier) old.entries.held → EntryInvariant digest_of settings (direct_calls (earlier ++ calls)) new.entries.held
  -- calls that meet the invariant of the outputs do so with these after them
  pub invariant : (earlier : List Account) → RecordsAreOf digest_of settings earlier calls old.entries → Invariant digest_of earlier old.objects.held → Invariant digest_of (earlier ++ calls) new.objects.held
  -- and outputs are those that the compilers give afresh
  pub outputs : (earlier : List Account) → RecordsAreOf digest_of settings earlier calls old.entries → Invariant digest_of earlier old.objects.held → Premises digest_of (earlier ++ calls) → AllAnswer run
