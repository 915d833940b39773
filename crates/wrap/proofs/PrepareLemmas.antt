-- What the hasher of a request's call says of its key, said of the request's work.
use Rattle.std.proofs.Common.{◌≡◌, ℕ, Bool, true, false, if◌then◌else◌, Some, None, Result, Ok, Err, IsErrAnd, refl, sym, ap, subst}
use Rattle.std.proofs.lemmas.Result.{err_from_is_err_and}
use Rattle.base_files.specs.Bytes.{Bytes}
use Rattle.ckeys.specs.Calls.{KeyCall, PrintedCall, printed_call}
use Rattle.ckeys.specs.Entries.{Held, entry_key_of, entry_key_by, has_entry_key}
use Rattle.ckeys.specs.EntryTurns.{EntryTurn, KeyFrom, KeyRecorded}
use Rattle.ckeys_base.specs.Shelf.{Shelf}
use Rattle.ckeys_records.specs.Causes.{ByStage, Stage, any_time, before_compile, in_compile, stage_of}
use Rattle.ckeys_records.specs.Meaning.{Meaning}
use Rattle.ckeys_records.specs.declared.fault.Fault.{Fault}
use Rattle.ckeys_records.specs.declared.fault.Fault.TheVariants.{Memory}
use Rattle.ckeys_include_records.specs.declared.entry_key.EntryKey.{EntryKey}
use Rattle.ckeys_include_records.specs.Records.{Record}
use Rattle.wrap_keys.specs.Account.{direct_at, work_at, worked}
use Rattle.wrap_keys.specs.Asking.{EntriesBy, EntriesTurn, OnUnkeyed, WorkKeyFrom}

-- a call that has an entry key
has_one : (digest_of : Bytes → Bytes) (call : KeyCall) (key : EntryKey) → entry_key_of digest_of call ≡ Some key → has_entry_key call ≡ true
has_one digest_of call key h = by (has_entry_key call) refl h
  where
    by : (b : Bool) → has_entry_key call ≡ b → (if b then Some (entry_key_by digest_of call) else None) ≡ Some key → has_entry_key call ≡ true
    by true e h = e
    by false e h = cc

module _ (digest_of : Bytes → Bytes) (meaning : Meaning) (made call : KeyCall) (same : made ≡ call) where
  -- a call that has an entry key asks for include records
  direct_is : (b : Bool) → has_entry_key call ≡ b → direct_at meaning call ≡ (if b then Some (printed_call meaning call) else None)
  direct_is b h = ap (λ x. if x then Some (printed_call meaning call) else None) h

  work_from : (held : Held) (from : Bool) (text_key : Bytes) → KeyFrom digest_of (printed_call meaning call) held from text_key → WorkKeyFrom digest_of (work_at meaning call) held from text_key
  work_from held true text_key h = record { p = printed_call meaning call; has = direct_is true (has_one digest_of call h.1.key h.1.is_entry); framed = h.0; match = h.1 }
  work_from held false text_key h = h

  -- where the key comes from, whose text is the digest
  pub key_from : (held : Held) (from : Bool) (text digest : Bytes) → digest ≡ text → KeyFrom digest_of (printed_call meaning made) held from text → WorkKeyFrom digest_of (work_at meaning call) held from digest
  key_from held from text digest is h = work_from held from digest (subst (KeyFrom digest_of (printed_call meaning call) held from) (sym is) (subst (λ (k : KeyCall). KeyFrom digest_of (printed_call meaning k) held from text) same h))

  -- what it does to the include records
  pub entries_by : (old new : Shelf EntryKey Record) (before after : ℕ) → EntryTurn digest_of (printed_call meaning made) old new before after → EntriesTurn digest_of (worked (work_at meaning call)) old new before after
  entries_by old new before after h = by (subst (λ (k : KeyCall). EntryTurn digest_of (printed_call meaning k) old new before after) same h) (has_entry_key call) refl
    where
      by : EntryTurn digest_of (printed_call meaning call) old new before after → (b : Bool) → has_entry_key call ≡ b → EntriesBy digest_of (if b then Some (printed_call meaning call) else None) old new before after
      by turn true h = turn
      by turn false h = turn.idle h

  -- the text that is recorded
  pub recorded_by : (old new : Shelf EntryKey Record) (from : Bool) (text digest : Bytes) → digest ≡ text → KeyRecorded digest_of (printed_call meaning made) old new from text → (p : PrintedCall) → direct_at meaning call ≡ Some p → KeyRecorded digest_of p old new from digest
  recorded_by old new from text digest is h p has =
      let recorded : KeyRecorded digest_of (printed_call meaning call) old new from text = subst (λ (k : KeyCall). KeyRecorded digest_of (printed_call meaning k) old new from text) same h in
      subst (λ (q : PrintedCall). KeyRecorded digest_of q old new from digest) (by (has_entry_key call) has) (subst (KeyRecorded digest_of (printed_call meaning call) old new from) (sym is) recorded)
    where
      by : (b : Bool) → (if b then Some (printed_call meaning call) else None) ≡ Some p → printed_call meaning call ≡ p
      by true h = cc
      by false h = cc

-- a fault of the key, or out of memory after it
pub unkeyed_exit : {A : Type 0} → (P : Type 0) (result : Result A Fault) → P → OnUnkeyed result P
unkeyed_exit P (Ok answer) h = tt
unkeyed_exit P (Err fault) h = by (stage_of fault)
  where
    by : (s : Stage) → ByStage s (Unit {0}) P (Unit {0})
    by any_time = tt
    by before_compile = h
    by in_compile = tt

pub unkeyed_memory : {A : Type 0} → (P : Type 0) (result : Result A Fault) → IsErrAnd result (λ f. f ≡ Memory) → OnUnkeyed result P
unkeyed_memory P result err = let p = err_from_is_err_and result err in rw (p.1, p.2) tt
