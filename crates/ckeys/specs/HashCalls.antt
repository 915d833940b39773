-- Calls of which keys are made one after another, over one store of include records.
use Rattle.std.specs.Prelude.{◌≡◌, ℕ, Bool, true, false, List, [], ◌∷◌, ◌++◌, map, filter, String, string_bytes, Result, IfOk, IfErr, OnOk, OnErr}
use Rattle.std.specs.List.{AllByRecursion, zip}
use Rattle.std.specs.declared.alloc.Global.{Global}
use Rattle.base_files.specs.Bytes.{Bytes}
use Rattle.base_files.specs.Views.{FilesFail, FilesView}
use Rattle.ckeys_base.specs.Shelf.{Shelf}
use Rattle.ckeys_include_records.specs.Records.{Record}
use Rattle.ckeys_include_records.specs.declared.entry_key.EntryKey.{EntryKey}
use Rattle.ckeys.specs.Calls.{PrintedCall, key_fault_by, needs_preprocessing, printed_call, record_by}
use Rattle.ckeys_records.specs.Faults.{KeyCause}
use Rattle.ckeys.specs.Entries.{asking, has_entry_key}
use Rattle.ckeys.specs.EntryTurns.{EntryTurn, KeyFine, KeyFrom, KeyRecorded, KeyRuns, PutsNone, RunsUntilKey}
use Rattle.ckeys_records.specs.Folders.{Settings}
use Rattle.ckeys.specs.Hashers.{call_of}
use Rattle.ckeys_records.specs.Keys.{key_of, record_shape}
use Rattle.ckeys_records.specs.Untouched.{Untouched}
use Rattle.ckeys_records.specs.Views.{ToolFails, ToolView}
use Rattle.ckeys_records.specs.Params.{is_cached}
use Rattle.ckeys_records.specs.Records.{FitsLength}
use Rattle.ckeys_records.specs.declared.fault.Fault.{Fault}
use Rattle.ckeys.specs.declared.call_list.HashCall.{HashCall}
use Rattle.ckeys_records.specs.declared.shape.CShape.{CShape}
use Rattle.ckeys.specs.declared.compiler_impl.CCompilerImpl.{Ghosts}

-- what can be seen of a call's compiler, files and tool
pub record CallView (I F T : Type 0) : Type 1 where
  pub compiler : Ghosts I
  pub files : FilesView F
  pub tool : ToolView T

abbrev pub call_view : {I F T : Type 0} → Ghosts I → FilesView F → ToolView T → CallView I F T
call_view compiler files tool = record { compiler = compiler; files = files; tool = tool }

-- a key with its shape, and whether a record gave it; or why there is none
abbrev pub KeyAnswer : Type 0
KeyAnswer = Result (String Global × CShape × Bool) Fault

-- those of these calls that have entry keys
abbrev pub asking_among : List PrintedCall → List PrintedCall
asking_among [] = []
asking_among (p ∷ calls) = asking p ++ asking_among calls

-- a key that is answered is that of the call's own record
abbrev pub IsOwnKey : (Bytes → Bytes) → PrintedCall → KeyAnswer → Type 0
IsOwnKey digest_of p answer = IfOk answer (λ made. string_bytes made.0 ≡ key_of digest_of (record_by p))

-- and so is each
abbrev pub AreOwnKeys : (Bytes → Bytes) → List PrintedCall → List KeyAnswer → Type 0
AreOwnKeys digest_of calls answers = AllByRecursion (λ x. IsOwnKey digest_of x.0 x.1) (zip calls answers)

module _ {I F T : Type 0} (view : CallView I F T) (settings : Settings) where
  -- a call with what its preprocessor prints
  abbrev pub printed_at : HashCall I F T → PrintedCall
  printed_at c = printed_call (view.tool.meaning c.tool) (call_of view.compiler.kind_of view.compiler.traits c.hasher c.dir.now c.env.now c.moment settings (view.files.tree c.files))

  abbrev pub printed_all : List (HashCall I F T) → List PrintedCall
  printed_all calls = map printed_at calls

-- A call is answered: a key with the shape of the call's own record, of the call's own text where no record gave it, and only where the call has no fault, but perhaps the preprocessor's that a record spared; a fault only with its cause; and the preprocessor runs for it exactly as often as it has to. The call is as it was, but for the ticks of its files and its tool.
pub record IsKeyed {I F T : Type 0} (digest_of : Bytes → Bytes) (view : CallView I F T) (settings : Settings) (begin end : HashCall I F T) (answer : KeyAnswer) : Type 0 where
  pub shape : IfOk answer (λ made. made.1 ≡ record_shape digest_of (record_by (printed_at view settings begin)))
  pub of_text : IfOk answer (λ made. made.2 ≡ false → string_bytes made.0 ≡ key_of digest_of (record_by (printed_at view settings begin)))
  pub fine : IfOk answer (λ made. KeyFine (printed_at view settings begin) made.2)
  pub cause : IfErr answer (KeyCause (key_fault_by (printed_at view settings begin)) (FilesFail view.files begin.files end.files) (ToolFails view.tool begin.tool end.tool))
  pub runs : needs_preprocessing begin.hasher.parsed.now.language ≡ true → IfOk answer (λ made. KeyRuns made.2 (view.tool.preprocessed begin.tool) (view.tool.preprocessed end.tool))
  pub until : needs_preprocessing begin.hasher.parsed.now.language ≡ true → IfErr answer (RunsUntilKey (view.tool.preprocessed begin.tool) (view.tool.preprocessed end.tool))
  pub idle : needs_preprocessing begin.hasher.parsed.now.language ≡ false → view.tool.preprocessed end.tool ≡ view.tool.preprocessed begin.tool
  pub plain : has_entry_key (printed_at view settings begin).call ≡ false → IfOk answer (λ made. made.2 ≡ false)
  pub fit : OnOk answer (AllByRecursion FitsLength (filter is_cached begin.env.now))
  pub untouched : Untouched view.tool view.files begin.tool begin.files end.tool end.files answer
  pub compiles : view.tool.compiled end.tool ≡ view.tool.compiled begin.tool
  pub hasher : end.hasher ≡ begin.hasher
  pub dir : end.dir ≡ begin.dir
  pub env : end.env ≡ begin.env
  pub moment : end.moment ≡ begin.moment

-- and so is each
abbrev pub AreKeyed : {I F T : Type 0} → (Bytes → Bytes) → CallView I F T → Settings → List (HashCall I F T) → List (HashCall I F T) → List KeyAnswer → Type 0
AreKeyed digest_of view settings begins ends answers = AllByRecursion (λ x. IsKeyed digest_of view settings x.0.0 x.0.1 x.1) (zip (zip begins ends) answers)

-- One call over the store: where its key comes from, what it does to the records and to the preprocessor's tick, that its text is recorded, and that a fault records nothing.
pub record AsksOver {I F T : Type 0} (digest_of : Bytes → Bytes) (view : CallView I F T) (settings : Settings) (old new : Shelf EntryKey Record) (begin end : HashCall I F T) (answer : KeyAnswer) : Type 0 where
  pub from : IfOk answer (λ made. KeyFrom digest_of (printed_at view settings begin) old.held made.2 (string_bytes made.0))
  pub entries : EntryTurn digest_of (printed_at view settings begin) old new (view.tool.preprocessed begin.tool) (view.tool.preprocessed end.tool)
  pub recorded : IfOk answer (λ made. KeyRecorded digest_of (printed_at view settings begin) old new made.2 (string_bytes made.0))
  pub unput : OnErr answer (PutsNone old new)

-- calls one after another: as each begins and ends, and what it answers
abbrev pub KeyRun : {I F T : Type 0} → (Bytes → Bytes) → CallView I F T → Settings → Shelf EntryKey Record → List ((HashCall I F T × HashCall I F T) × KeyAnswer) → Shelf EntryKey Record → Type 0
KeyRun digest_of view settings old [] new = new ≡ old
KeyRun digest_of view settings old (x ∷ rest) new = (mid : Shelf EntryKey Record) × AsksOver digest_of view settings old mid x.0.0 x.0.1 x.1 × KeyRun digest_of view settings mid rest new
