-- Whole runs.
use Rattle.std.specs.Prelude.{◌≡◌, ℕ, true, false, List, [], ◌∷◌, map, Option, Some, None, Result, Ok, Err, IfErr, OnOk, IsErrOf}
use Rattle.std.specs.List.{AllByRecursion}
use Rattle.base_files.specs.Bytes.{Bytes, ticked}
use Rattle.base_files.specs.Views.{FilesFail, FilesView}
use Rattle.ckeys_base.specs.Shelf.{Shelf, Within, KeepsKeys}
use Rattle.ckeys_records.specs.Causes.{ByStage, HasOwnFault, stage_of}
use Rattle.ckeys_records.specs.Folders.{Settings}
use Rattle.ckeys_records.specs.Untouched.{Untouched}
use Rattle.ckeys_records.specs.Views.{ToolFails, ToolView}
use Rattle.ckeys_records.specs.declared.fault.Fault.{Fault}
use Rattle.ckeys_records.specs.declared.fault.Fault.TheVariants.{Memory}
use Rattle.wrap_keys.specs.RustVerdicts.{is_rust_no_text}
use Rattle.wrap_keys.specs.Verdicts.{Why}
use Rattle.wrap_keys.specs.Account.{Account, Work, passed, worked, Pairs, account_at, why_passed}
use Rattle.wrap_keys.specs.Answers.{Answers, EarlyCause, GoesOn, OnPass, Says, SaysBy, SaysPassed, settled, settled_by}
use Rattle.wrap_keys.specs.Asking.{AskedTurn, EntriesTurn, IsOfOneCall, OnOutputs, RecordsAreTrue, Shelves}
use Rattle.wrap_keys.specs.Early.{IsAskedEarly, OfPassed}
use Rattle.wrap_keys.specs.Sizes.{is_within, size_in}
use Rattle.wrap_keys.specs.StoreKeys.{HasRecord, SameRecord}
use Rattle.wrap_keys.specs.Turn.{StoreTurn}
use Rattle.wrap_base.specs.Commands.{named_by}
use Rattle.wrap_base.specs.declared.answer.Answer.{Answer}
use Rattle.wrap_base.specs.declared.answer.Answer.TheVariants.{Pass, Outputs}
use Rattle.wrap_base.specs.declared.answer.How.TheVariants.{Direct, Stored, Fresh}
use Rattle.wrap_base.specs.declared.answer.Output.{Output}
use Rattle.wrap_base.specs.declared.call.Call.{Call}
use Rattle.wrap_base.specs.declared.store_key.StoreKey.{StoreKey}

-- the ticks of a call's tool and files
pub record Ticks : Type 0 where
  pub preprocessed : ℕ
  pub compiled : ℕ
  pub failed : ℕ  -- the failures of the tool
  pub files_failed : ℕ  -- the failures of the files

-- neither failure tick has moved
abbrev pub SameFailures : Ticks → Ticks → Type 0
SameFailures before after = (after.failed ≡ before.failed) × (after.files_failed ≡ before.files_failed)

-- outputs come with the call's own text on dependencies
abbrev pub TellsDependencies : Account → Result Answer Fault → Type 0
TellsDependencies (passed why) result = Unit {0}
TellsDependencies (worked w) (Ok (Pass reason)) = Unit {0}
TellsDependencies (worked w) (Ok (Outputs map how dep_info)) = dep_info ≡ w.dep_info
TellsDependencies (worked w) (Err fault) = Unit {0}

-- a fact of a call where its answer is a fault of the compile
abbrev pub OnCompileFault : Account → Result Answer Fault → (Work → Type 0) → Type 0
OnCompileFault (passed why) result P = Unit {0}
OnCompileFault (worked w) (Ok answer) P = Unit {0}
OnCompileFault (worked w) (Err fault) P = ByStage (stage_of fault) (Unit {0}) (Unit {0}) (P w)

-- One call, by plain values: what it does to the store and what its answer reports; what the verdict passes through is passed through, unless there was out of memory or an I/O error on a file before, and then no tick of the tool moves; outputs and faults of the compile are answered only where the call has a record, and outputs beside its own text on dependencies; and without out of memory and I/O errors, what is said before the compile is the account's alone.
pub record Turn (digest_of : Bytes → Bytes) (max_kept : Option ℕ) (a : Account) (old new : Shelf StoreKey Pairs) (before after : Ticks) (result : Result Answer Fault) : Type 0 where
  pub store : StoreTurn digest_of max_kept a old new before.compiled after.compiled result
  pub passes : (why : Why) → why_passed a ≡ Some why → SaysPassed why (λ name. after.files_failed ≡ ticked before.files_failed) result
  pub quiet : OnPass result ((after.preprocessed ≡ before.preprocessed) × (after.compiled ≡ before.compiled) × (after.failed ≡ before.failed))
  pub fine : OnOutputs a result HasRecord
  pub compiled : OnCompileFault a result HasRecord
  pub dep_info : TellsDependencies a result
  pub exact : (IsErrOf result Memory → ⊥) → after.files_failed ≡ before.files_failed → after.failed ≡ before.failed → settled_by result ≡ settled a

-- a call that was answered: its account, the ticks before and after it, and its answer
pub record Served : Type 0 where
  pub account : Account
  pub before : Ticks
  pub after : Ticks
  pub result : Result Answer Fault

-- from the end of one call to the beginning of the next, pairs may be lost
pub record Loses {K V : Type 0} (old new : Shelf K V) : Type 0 where
  pub within : Within old.held new.held
  pub kept : new.kept ≡ true → (old.kept ≡ true) × KeepsKeys old.held new.held

-- calls one after another, from what the store holds before them to what it holds after them
abbrev pub Run : (Bytes → Bytes) → Option ℕ → Shelf StoreKey Pairs → List Served → Shelf StoreKey Pairs → Type 0
Run digest_of max_kept old [] new = Loses old new
Run digest_of max_kept old (s ∷ rest) new = (begin : Shelf StoreKey Pairs) × (mid : Shelf StoreKey Pairs) × Loses old begin × Turn digest_of max_kept s.account begin mid s.before s.after s.result × Run digest_of max_kept mid rest new

-- One call over both stores, by plain values: where the records are true of it, it is a turn over the object store alone; and, whether they are or not, it asks that store under a key and does to both what its answer reports; what the verdict passes through is passed through; and no failure tick has moved, unless the fault is an I/O error.
pub record CallTurn (digest_of : Bytes → Bytes) (max_kept : Option ℕ) (settings : Settings) (a : Account) (old new : Shelves) (before after : Ticks) (result : Result Answer Fault) : Type 0 where
  pub own : RecordsAreTrue digest_of a old.entries.held → Turn digest_of max_kept a old.objects new.objects before after result
  pub asked : AskedTurn digest_of max_kept a old new before.preprocessed after.preprocessed before.compiled after.compiled result
  pub entries : EntriesTurn digest_of a old.entries new.entries before.preprocessed after.preprocessed
  pub configured : IsOfOneCall settings a
  pub steady : OnOk result (SameFailures before after)
  pub still : HasOwnFault result → SameFailures before after
  pub passes : (why : Why) → why_passed a ≡ Some why → SaysPassed why (λ name. after.files_failed ≡ ticked before.files_failed) result
  pub quiet : OnPass result ((after.preprocessed ≡ before.preprocessed) × (after.compiled ≡ before.compiled) × (after.failed ≡ before.failed))

-- calls one after another over both stores
abbrev pub BothRun : (Bytes → Bytes) → Option ℕ → Settings → Shelves → List Served → Shelves → Type 0
BothRun digest_of max_kept settings old [] new = Loses old.entries new.entries × Loses old.objects new.objects
BothRun digest_of max_kept settings old (s ∷ rest) new = (begin : Shelves) × (mid : Shelves) × Loses old.entries begin.entries × Loses old.objects begin.objects × CallTurn digest_of max_kept settings s.account begin mid s.before s.after s.result × BothRun digest_of max_kept settings mid rest new

-- a session's calls over both stores: each begins at what the one before it left
abbrev pub SessionRun : (Bytes → Bytes) → Option ℕ → Settings → Shelves → List Served → Shelves → Type 0
SessionRun digest_of max_kept settings old [] new = new ≡ old
SessionRun digest_of max_kept settings old (s ∷ rest) new = (mid : Shelves) × CallTurn digest_of max_kept settings s.account old mid s.before s.after s.result × SessionRun digest_of max_kept settings mid rest new

abbrev pub accounts_of : List Served → List Account
accounts_of run = map (λ s. s.account) run

-- all outputs that are answered are the fresh ones
abbrev pub AllAnswer : List Served → Type 0
AllAnswer run = AllByRecursion (λ s. Answers s.account s.result) run

-- fresh outputs were answered
abbrev pub IsFresh : Result Answer Fault → Type 0
IsFresh (Ok (Pass reason)) = ⊥
IsFresh (Ok (Outputs map Direct dep_info)) = ⊥
IsFresh (Ok (Outputs map Stored dep_info)) = ⊥
IsFresh (Ok (Outputs map Fresh dep_info)) = Unit {0}
IsFresh (Err fault) = ⊥

-- fresh outputs were answered, of a size that is within the limit
abbrev pub IsFreshWithin : Option ℕ → Result Answer Fault → Type 0
IsFreshWithin max_kept (Ok (Pass reason)) = ⊥
IsFreshWithin max_kept (Ok (Outputs map Direct dep_info)) = ⊥
IsFreshWithin max_kept (Ok (Outputs map Stored dep_info)) = ⊥
IsFreshWithin max_kept (Ok (Outputs map Fresh dep_info)) = is_within max_kept (size_in map) ≡ true
IsFreshWithin max_kept (Err fault) = ⊥

-- both calls have one record
abbrev pub HaveOneRecord : Account → Account → Type 0
HaveOneRecord (passed why) other = ⊥
HaveOneRecord (worked w) (passed why) = ⊥
HaveOneRecord (worked w) (worked v) = SameRecord w v

-- of the answers whose records are equal, and whose size is within the limit, at most one is fresh: after a fresh one of such a size there is no other
abbrev pub OneFresh : Option ℕ → List Served → Type 0
OneFresh max_kept [] = Unit {0}
OneFresh max_kept (s ∷ rest) = (IsFreshWithin max_kept s.result → AllByRecursion (λ t. IsFresh t.result → HaveOneRecord s.account t.account → ⊥) rest) × OneFresh max_kept rest

-- the outputs of an answer, and the text on dependencies beside them
abbrev pub outputs_in : Result Answer Fault → Option (List Output × Option Bytes)
outputs_in (Ok (Pass reason)) = None
outputs_in (Ok (Outputs map how dep_info)) = Some (map, dep_info)
outputs_in (Err fault) = None

-- where both runs answer a call with outputs, these are the same, and so is the text on dependencies
abbrev pub Agree : Option (List Output × Option Bytes) → Option (List Output × Option Bytes) → Type 0
Agree None other = Unit {0}
Agree (Some x) None = Unit {0}
Agree (Some x) (Some y) = x ≡ y

abbrev pub SameOutputs : List Served → List Served → Type 0
SameOutputs [] two = Unit {0}
SameOutputs (s ∷ one) [] = Unit {0}
SameOutputs (s ∷ one) (t ∷ two) = Agree (outputs_in s.result) (outputs_in t.result) × SameOutputs one two

-- calls as they begin, as they end, and what they answered
abbrev pub served : List (Account × Ticks) → List Ticks → List (Result Answer Fault) → List Served
served [] ends results = []
served (b ∷ begins) [] results = []
served (b ∷ begins) (e ∷ ends) [] = []
served (b ∷ begins) (e ∷ ends) (r ∷ results) = record { account = b.0; before = b.1; after = e; result = r } ∷ served begins ends results

-- of calls on such files, by such tools
module _ {F T : Type 0} (settings : Settings) (files : FilesView F) (tool : ToolView T) where
  abbrev pub ticks_of : F → T → Ticks
  ticks_of f t = record { preprocessed = tool.preprocessed t; compiled = tool.compiled t; failed = tool.failed t; files_failed = files.failed f }

  -- a call as it begins
  abbrev pub begin_of : Call F T → Account × Ticks
  begin_of c = (account_at (tool.meaning c.tool) (files.tree c.files) settings c.request, ticks_of c.files c.tool)

  abbrev pub end_of : Call F T → Ticks
  end_of c = ticks_of c.files c.tool

  -- calls that own their files and tools, before and after they were answered
  abbrev pub served_at : List (Call F T) → List (Call F T) → List (Result Answer Fault) → List Served
  served_at old new results = served (map begin_of old) (map end_of new) results

  -- their accounts
  abbrev pub accounts_at : List (Call F T) → List Account
  accounts_at calls = map (λ c. account_at (tool.meaning c.tool) (files.tree c.files) settings c.request) calls

-- what holds of each: as it began, as it ended, and its result
abbrev pub Each : {A B : Type 0} → (A → A → B → Type 0) → List A → List A → List B → Type 0
Each P [] ends results = Unit {0}
Each P (b ∷ begins) [] results = Unit {0}
Each P (b ∷ begins) (e ∷ ends) [] = Unit {0}
Each P (b ∷ begins) (e ∷ ends) (r ∷ results) = P b e r × Each P begins ends results

-- A call is answered: its answer says what it may, a fault only with its cause, and outputs, where no records are kept, only where the call has no fault before; a fault of one that is passed through names no file but those that its words ask for; a request to rustc that isn't UTF-8 touches no file; no failure tick has moved, unless the fault is an I/O error; and its request, the tree of its files and its tool's meaning are as they were.
pub record IsAnswered {F T : Type 0} (settings : Settings) (files : FilesView F) (tool : ToolView T) (begin end : Call F T) (result : Result Answer Fault) : Type 0 where
  pub says : SaysBy GoesOn (account_at (tool.meaning begin.tool) (files.tree begin.files) settings begin.request) (FilesFail files begin.files end.files) (ToolFails tool begin.tool end.tool) result
  pub plain : settings.direct ≡ false → Says (account_at (tool.meaning begin.tool) (files.tree begin.files) settings begin.request) (FilesFail files begin.files end.files) (ToolFails tool begin.tool end.tool) result
  pub passed : IfErr result (λ fault. OfPassed (account_at (tool.meaning begin.tool) (files.tree begin.files) settings begin.request) (EarlyCause (IsAskedEarly (named_by begin.request.compiler) begin.request (files.tree begin.files)) fault))
  pub no_text : is_rust_no_text (named_by begin.request.compiler) begin.request ≡ true → end.files ≡ begin.files
  pub untouched : Untouched tool files begin.tool begin.files end.tool end.files result
  pub request : end.request ≡ begin.request

-- of calls on such files, by such tools: what an answer says of a call whose records are true
module _ {F T : Type 0} (settings : Settings) (files : FilesView F) (tool : ToolView T) where
  abbrev pub SaysOwn : Call F T → Call F T → Result Answer Fault → Type 0
  SaysOwn begin end result = Says (account_at (tool.meaning begin.tool) (files.tree begin.files) settings begin.request) (FilesFail files begin.files end.files) (ToolFails tool begin.tool end.tool) result
