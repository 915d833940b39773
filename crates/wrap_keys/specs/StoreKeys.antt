-- What a call's outputs are kept under, and what is held.
use Rattle.std.specs.Prelude.{◌≡◌, ◌⊎◌, List, Option, None, Some}
use Rattle.std.specs.List.{Contains}
use Rattle.base_files.specs.Bytes.{Bytes}
use Rattle.ckeys.specs.Calls.{PrintedCall}
use Rattle.ckeys.specs.Entries.{AreReprinted, IsHashedBy}
use Rattle.ckeys_records.specs.Keys.{Distinct}
use Rattle.ckeys_records.specs.Meaning.{names_of}
use Rattle.wrap_keys.specs.CallRecords.{IsHashedFor, IsTold, family_of, key_of, record_shape}
use Rattle.wrap_keys.specs.Account.{Account, worked, Work, Pairs, IsSuccess, direct_calls}
use Rattle.wrap_base.specs.declared.store_key.StoreKey.{StoreKey}

-- the key with this digest, and the record's shape and the outputs' names
abbrev pub store_key_with : (Bytes → Bytes) → Work → Bytes → StoreKey
store_key_with digest_of w text_key = record { family = family_of w.rec; shape = record_shape digest_of w.rec; names = names_of w.outputs; digest = text_key }

-- the key: the digest of the record's material, with its shape and the outputs' names
abbrev pub store_key_of : (Bytes → Bytes) → Work → StoreKey
store_key_of digest_of w = store_key_with digest_of w (key_of digest_of w.rec)

-- both have one record, names of outputs with their marks included
pub record SameRecord (a b : Work) : Type 0 where
  pub parts : a.rec ≡ b.rec
  pub names : names_of a.outputs ≡ names_of b.outputs

-- what is hashed for an include record, where one is asked for
abbrev pub IsHashedDirect : (Bytes → Bytes) → Option PrintedCall → Bytes → Type 0
IsHashedDirect digest_of None bytes = ⊥
IsHashedDirect digest_of (Some p) bytes = IsHashedBy digest_of p.call bytes

-- A call has a record: it doesn't fault before the store is asked.
abbrev pub HasRecord : Work → Type 0
HasRecord w = w.fault ≡ None

-- the strings that are hashed in a run: for each of its calls that has a record, the contents of its extra files and its material; and what is hashed for its include record
pub record IsHashedIn (digest_of : Bytes → Bytes) (run : List Account) (bytes : Bytes) : Type 0 where
  pub call : Work
  pub among : Contains run (worked call)
  pub is : (HasRecord call × IsHashedFor digest_of call.rec bytes) ⊎ IsHashedDirect digest_of call.direct bytes

-- What is assumed of a run: its digests are distinct, calls of one record have one fresh outcome, and for calls that have entry keys texts are printed again.
pub record Premises (digest_of : Bytes → Bytes) (run : List Account) : Type 0 where
  pub distinct : Distinct digest_of (IsHashedIn digest_of run)
  pub settled : (a b : Work) → Contains run (worked a) → Contains run (worked b) → HasRecord a → HasRecord b → SameRecord a b → a.fresh ≡ b.fresh
  pub reprinted : AreReprinted (direct_calls run)

-- a pair that is held is the key of a call with this digest, and that call's successful fresh outcome
pub record IsUnder (digest_of : Bytes → Bytes) (text_key : Bytes) (w : Work) (key : StoreKey) (pairs : Pairs) : Type 0 where
  pub is_key : key ≡ store_key_with digest_of w text_key
  pub made : IsSuccess w pairs
  pub told : IsTold digest_of w.rec

-- a pair that is held is the key of a call that has a record, and that call's successful fresh outcome
abbrev pub IsOf : (Bytes → Bytes) → Work → StoreKey → Pairs → Type 0
IsOf digest_of w key pairs = HasRecord w × IsUnder digest_of (key_of digest_of w.rec) w key pairs

-- each pair that is held is that of an earlier call
abbrev pub Invariant : (Bytes → Bytes) → List Account → (StoreKey → Option Pairs) → Type 0
Invariant digest_of earlier held = (key : StoreKey) (pairs : Pairs) → held key ≡ Some pairs → (w : Work) × Contains earlier (worked w) × IsOf digest_of w key pairs
