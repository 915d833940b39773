-- One call of `generate_hash_key`: where its key comes from, and what it does to the store of include records.
use Rattle.std.specs.Prelude.{◌≡◌, ◌⊎◌, ℕ, Bool, true, false, if◌then◌else◌, List, [], Option, None, Some, Result}
use Rattle.std.specs.List.{Contains}
use Rattle.base_files.specs.Bytes.{Bytes, ticked}
use Rattle.ckeys_base.specs.Shelf.{Shelf, KeepsKeys, Puts, Within}
use Rattle.ckeys_include_records.specs.LookUps.{LooksUp, NoneAbove}
use Rattle.ckeys_include_records.specs.Records.{Record, result_with}
use Rattle.ckeys_include_records.specs.Results.{HasMore, with_result}
use Rattle.ckeys_include_records.specs.Surroundings.{Place}
use Rattle.ckeys_include_records.specs.declared.entry.CachedResult.{CachedResult}
use Rattle.ckeys_include_records.specs.declared.entry.IncludeEntry.{IncludeEntry}
use Rattle.ckeys_include_records.specs.declared.entry_key.EntryKey.{EntryKey}
use Rattle.ckeys.specs.Calls.{PrintedCall, key_fault_by, record_by, text_fault_by}
use Rattle.ckeys.specs.Entries.{Held, HasMatch, IsFramed, IsOwnResult, entry_key_of, good_text, has_entry_key, includes_by}
use Rattle.ckeys.specs.Surroundings.{place_of}
use Rattle.ckeys_records.specs.Causes.{step_of}
use Rattle.ckeys_records.specs.Meaning.{AtMostOnce}
use Rattle.ckeys_records.specs.Keys.{key_of}
use Rattle.ckeys.specs.declared.known.Known.{Known}
use Rattle.ckeys.specs.declared.known.Known.TheVariants.{Found, Missed}
use Rattle.ckeys_records.specs.declared.fault.Fault.{Fault}
use Rattle.ckeys_records.specs.declared.fault.Fault.TheVariants.{PreprocessFailed}
use Rattle.ckeys_records.specs.declared.step.Step.{Step}
use Rattle.ckeys_records.specs.declared.step.Step.TheVariants.{Preprocess, Compile, DepInfo, FileNames, ArchiveDigest}

-- where the key of a call comes from: a matching result that is held, or its text
abbrev pub KeyFrom : (Bytes → Bytes) → PrintedCall → Held → Bool → Bytes → Type 0
KeyFrom digest_of p held true text_key = IsFramed digest_of p.call × HasMatch digest_of p.call held text_key
KeyFrom digest_of p held false text_key = text_key ≡ key_of digest_of (record_by p)

-- no matching result that is held under the call's entry key has a greater key
abbrev pub IsGreatest : (Bytes → Bytes) → PrintedCall → Held → Bytes → Type 0
IsGreatest digest_of p held text_key = (key : EntryKey) (entry : Record) → entry_key_of digest_of p.call ≡ Some key → held key ≡ Some entry → NoneAbove digest_of (place_of p.call) entry.results text_key

-- a key that a record gave is that of the greatest matching result
abbrev pub IsGreatestFrom : (Bytes → Bytes) → PrintedCall → Held → Bool → Bytes → Type 0
IsGreatestFrom digest_of p held true text_key = IsGreatest digest_of p held text_key
IsGreatestFrom digest_of p held false text_key = Unit {0}

-- the first fault, where a record gave the key: none, or that of the preprocessor, which didn't run
abbrev pub IsSpared : Option Fault → Type 0
IsSpared None = Unit {0}
IsSpared (Some (PreprocessFailed status)) = Unit {0}
IsSpared (Some fault) = ⊥

abbrev pub KeyFine : PrintedCall → Bool → Type 0
KeyFine p true = IsSpared (key_fault_by p)
KeyFine p false = key_fault_by p ≡ None

-- the preprocessor ran exactly if the key came from the text
abbrev pub KeyRuns : Bool → ℕ → ℕ → Type 0
KeyRuns true before after = after ≡ before
KeyRuns false before after = after ≡ ticked before

-- How often it ran before a fault of that step, or of none: out of memory and a file that can't be had come before or after it. No C compiler is asked in a step of rustc's.
abbrev pub RunsUntilStep : Option Step → Type 0 → ℕ → ℕ → Type 0
RunsUntilStep None in_compile before after = AtMostOnce before after
RunsUntilStep (Some Preprocess) in_compile before after = after ≡ ticked before
RunsUntilStep (Some Compile) in_compile before after = in_compile
RunsUntilStep (Some DepInfo) in_compile before after = ⊥
RunsUntilStep (Some FileNames) in_compile before after = ⊥
RunsUntilStep (Some ArchiveDigest) in_compile before after = ⊥

-- how often it ran before that fault, by what is said of one that comes in the compile
abbrev pub RunsUntil : Fault → Type 0 → ℕ → ℕ → Type 0
RunsUntil fault in_compile before after = RunsUntilStep (step_of fault) in_compile before after

-- how often it ran before a fault that comes before the compile
abbrev pub RunsUntilKey : ℕ → ℕ → Fault → Type 0
RunsUntilKey before after fault = RunsUntil fault ⊥ before after

-- a matching result with this key is held, unless something was dropped or refused
abbrev pub IsHeldFor : (Bytes → Bytes) → PrintedCall → Shelf EntryKey Record → Bytes → Type 0
IsHeldFor digest_of p new text_key = new.kept ≡ true → HasMatch digest_of p.call new.held text_key

-- and so it is at the end: nothing was put where a record gave the key, and one pair where the text is recorded
abbrev pub IsHeldAfter : (Bytes → Bytes) → PrintedCall → Shelf EntryKey Record → Shelf EntryKey Record → Bool → Bytes → Type 0
IsHeldAfter digest_of p old new true text_key = IsHeldFor digest_of p new text_key × (new.puts ≡ old.puts)
IsHeldAfter digest_of p old new false text_key = has_entry_key p.call ≡ true → (text : Bytes) (includes : List IncludeEntry) → good_text p.printed ≡ Some text → includes_by digest_of p.call text ≡ Some includes → IsHeldFor digest_of p new text_key × (new.puts ≡ ticked old.puts)

-- what was done to the records where a call has its key: one look-up of a call with an entry key and none of another, and one put at most
pub record KeyRecorded (digest_of : Bytes → Bytes) (p : PrintedCall) (old new : Shelf EntryKey Record) (from : Bool) (text_key : Bytes) : Type 0 where
  pub got : new.gets ≡ (if has_entry_key p.call then ticked old.gets else old.gets)
  pub held : IsHeldAfter digest_of p old new from text_key

-- where nothing was dropped or refused, nothing was before either, each key is still there, and no look-up forgot
pub record KeptOn {K V : Type 0} (old new : Shelf K V) : Type 0 where
  pub was : old.kept ≡ true
  pub keys : KeepsKeys old.held new.held
  pub steady : new.forgets ≡ old.forgets

-- a pair that a call adds is its own: under its entry key, results that were held there before, and its own
pub record IsOwnPair (digest_of : Bytes → Bytes) (p : PrintedCall) (old : Held) (key : EntryKey) (entry : Record) : Type 0 where
  pub is_entry : entry_key_of digest_of p.call ≡ Some key
  pub framed : IsFramed digest_of p.call
  pub from : (r : CachedResult) → Contains entry.results r → ((before : Record) × (old key ≡ Some before) × Contains before.results r) ⊎ IsOwnResult digest_of p r

-- the results that lie under a key
abbrev pub results_of : Option Record → List CachedResult
results_of None = []
results_of (Some entry) = entry.results

-- a key's record holds this result beside all that it held before, or alone where the record starts over
abbrev pub IsJoined : Option Record → CachedResult → Option Record → Type 0
IsJoined before own after = (entry : Record) × (after ≡ Some entry) × (entry.results ≡ with_result (results_of before) own)

-- no pair is put, and none is gained
pub record PutsNone (old new : Shelf EntryKey Record) : Type 0 where
  pub within : Within old.held new.held
  pub put : new.puts ≡ old.puts

-- what a look-up reported of a key: what lay under it; or nothing, though something did, which is counted
abbrev pub IsToldOf : Shelf EntryKey Record → Shelf EntryKey Record → EntryKey → Option Record → Type 0
IsToldOf old new key told = (told ≡ old.held key) ⊎ ((told ≡ None) × (new.forgets ≡ ticked old.forgets))

-- a put was refused: no pair is gained, and this is reported
pub record Refuses {K V : Type 0} (old new : Shelf K V) : Type 0 where
  pub within : Within old.held new.held
  pub told : new.kept ≡ false

-- this pair was put: it's held, or it was refused
abbrev pub IsPut : {K V : Type 0} → Shelf K V → Shelf K V → K → V → Type 0
IsPut old new key value = (new.held key ≡ Some value) ⊎ Refuses old new

-- a record was put under this key: what the look-up reported of it with this result joined, whatever was dropped or refused
pub record PutsJoined (old new : Shelf EntryKey Record) (key : EntryKey) (own : CachedResult) : Type 0 where
  pub told : Option Record
  pub looked_up : IsToldOf old new key told
  pub entry : Record
  pub exact : entry.results ≡ with_result (results_of told) own
  pub is_put : IsPut old new key entry

-- one pair is put: a result of the call's own text is recorded beside what the look-up gave for the key, and where nothing was dropped or refused it joined what lay there
pub record PutsOwn (digest_of : Bytes → Bytes) (p : PrintedCall) (old new : Shelf EntryKey Record) : Type 0 where
  pub own : CachedResult
  pub is_own : IsOwnResult digest_of p own
  pub put : new.puts ≡ ticked old.puts
  pub exact : (key : EntryKey) → entry_key_of digest_of p.call ≡ Some key → PutsJoined old new key own
  pub joined : (key : EntryKey) → entry_key_of digest_of p.call ≡ Some key → new.kept ≡ true → IsJoined (old.held key) own (new.held key)

-- what one call does to the store of include records, and to the preprocessor's tick
pub record EntryTurn (digest_of : Bytes → Bytes) (p : PrintedCall) (old new : Shelf EntryKey Record) (before after : ℕ) : Type 0 where
  pub gains : (key : EntryKey) (entry : Record) → new.held key ≡ Some entry → (old.held key ≡ Some entry) ⊎ IsOwnPair digest_of p old.held key entry
  pub kept : new.kept ≡ true → KeptOn old new
  pub cleared : new.clears ≡ old.clears
  pub put : PutsNone old new ⊎ PutsOwn digest_of p old new
  -- a matching result that was held spares the preprocessor, or a look-up forgot it
  pub asked : (text_key : Bytes) → HasMatch digest_of p.call old.held text_key → (after ≡ before) ⊎ (new.forgets ≡ ticked old.forgets)
  -- it's looked up at most once, and once where a call with an entry key has run the preprocessor
  pub got : AtMostOnce old.gets new.gets
  pub got_first : has_entry_key p.call ≡ true → (after ≡ before → ⊥) → new.gets ≡ ticked old.gets
  -- a call without an entry key doesn't touch it
  pub idle : has_entry_key p.call ≡ false → new ≡ old

-- what a look-up reported of what lies under the key
abbrev pub IsKnown : (Bytes → Bytes) → Place → Option Record → Known → Type 0
IsKnown digest_of place held (Found text_key) = LooksUp digest_of place (results_of held) (Some text_key)
IsKnown digest_of place held (Missed entry) = (entry.results ≡ results_of held) × LooksUp digest_of place (results_of held) None

-- a key that a look-up found is the greatest that it could
abbrev pub IsGreatestKnown : (Bytes → Bytes) → Place → Option Record → Known → Type 0
IsGreatestKnown digest_of place held (Found text_key) = NoneAbove digest_of place (results_of held) text_key
IsGreatestKnown digest_of place held (Missed entry) = Unit {0}

-- these results are those of before with one more: in its place, or alone where the record starts over
pub record Gains (before : List CachedResult) (own : CachedResult) (after : List CachedResult) : Type 0 where
  pub exact : after ≡ with_result before own
  pub more : HasMore before own after

-- a text's result is put beside those that were known, where it's recorded
abbrev pub Keeps : (EntryKey → EntryKey → Bool) → EntryKey → List CachedResult → Bytes → Option (List IncludeEntry) → Shelf EntryKey Record → Shelf EntryKey Record → Type 0
Keeps eq key results text_key None old new = new ≡ old
Keeps eq key results text_key (Some includes) old new = (entry : Record) × (put : Result (Unit {0}) (EntryKey × Record)) × Gains results (result_with text_key includes) entry.results × Puts eq old new key entry put

-- the first fault after the extra files and the input
abbrev pub TextFine : PrintedCall → Bool → Type 0
TextFine p true = Unit {0}
TextFine p false = text_fault_by p ≡ None
