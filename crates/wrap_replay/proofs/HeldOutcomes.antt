-- What is held under a call's key is its fresh outcome, and a step that succeeded was recorded.
use Rattle.std.proofs.Common.{◌≡◌, pos, Bool, true, false, List, [], ◌∷◌, ◌++◌, Option, None, Some, ◌⊎◌, inl, inr, ◌↔◌, refl, ap, ◌∙◌, if◌then◌else◌}
use Rattle.std.specs.List.{Contains}
use Rattle.std.specs.Ordering.{int_eq}
use Rattle.std.proofs.lemmas.Bool.Decides.{Decides-int_eq}
use Rattle.std.proofs.lemmas.List.Elements.{Contains-append_left, Contains-push}
use Rattle.base_files.specs.Bytes.{Bytes}
use Rattle.ckeys_records.specs.Faults.{preprocess_fault_of}
use Rattle.ckeys_records.specs.Meaning.{Made}
use Rattle.ckeys_records.specs.declared.fault.Fault.TheVariants.{PreprocessFailed}
use Rattle.wrap.specs.Account.{Account, worked, Work, Pairs, IsSuccess, collected}
use Rattle.wrap.specs.CallRecords.{AreDistinct, IsHashedFor, IsTold}
use Rattle.wrap.specs.StoreKeys.{HasRecord, Invariant, IsHashedIn, Premises, SameRecord, store_key_of}
use Rattle.wrap_base.specs.declared.store_key.StoreKey.{StoreKey}
use Rattle.wrap_replay_base.specs.Recorded.{unmade}

-- a test that chose between an answer and a failure chose the answer, where that succeeded
pub chosen : (b : Bool) (made other : Made) → (b ≡ true → made ≡ other) → (if b then made else unmade).status ≡ pos 0 → (if b then made else unmade) ≡ other
chosen true made other same h = same refl
chosen false made other same h = cc

-- a step without a fault ended with 0
status_by : (b : Bool) (m : Made) → int_eq m.status (pos 0) ≡ b → (if b then None else Some (PreprocessFailed m.status)) ≡ None → m.status ≡ pos 0
status_by true m e h = (Decides-int_eq m.status (pos 0)).0 e
status_by false m e h = cc

pub status_is : (m : Made) → preprocess_fault_of m ≡ None → m.status ≡ pos 0
status_is m h = status_by (int_eq m.status (pos 0)) m refl h

-- keys of outputs determine records
abbrev pub Tells : (Bytes → Bytes) → Type 0
Tells digest_of = (one other : Work) → IsTold digest_of one.rec → IsTold digest_of other.rec → AreDistinct digest_of one.rec other.rec → (store_key_of digest_of one ≡ store_key_of digest_of other) ↔ SameRecord one other

module _ (digest_of : Bytes → Bytes) (tells : Tells digest_of) (w v : Work) (run : List Account) (here : Contains run (worked w)) (there : Contains run (worked v)) (premises : Premises digest_of run) (fine : HasRecord w) (also : HasRecord v) (told : IsTold digest_of w.rec) (told_also : IsTold digest_of v.rec) (is_key : store_key_of digest_of w ≡ store_key_of digest_of v) where
  hashed : (bytes : Bytes) → IsHashedFor digest_of w.rec bytes ⊎ IsHashedFor digest_of v.rec bytes → IsHashedIn digest_of run bytes
  hashed bytes (inl h) = record { call = w; among = here; is = inl (fine, h) }
  hashed bytes (inr h) = record { call = v; among = there; is = inl (also, h) }

  one_success : (pairs : Pairs) → IsSuccess v pairs → IsSuccess w pairs
  one_success pairs s =
      let same = (tells w v told told_also (λ one other p q. premises.distinct one other (hashed one p) (hashed other q))).0 is_key in
      let fresh : w.fresh ≡ v.fresh = premises.settled w v here there fine also same in
      record { succeeded = ap (λ (m : Made). m.status) fresh ∙ s.succeeded; made = (λ i. collected (same.names i) (fresh i).contents) ∙ s.made }

-- what is held under a call's key is what its compiler gives afresh
pub held_is : (digest_of : Bytes → Bytes) → Tells digest_of → (w : Work) → HasRecord w → IsTold digest_of w.rec → (held : StoreKey → Option Pairs) (pairs : Pairs) → held (store_key_of digest_of w) ≡ Some pairs → (earlier : List Account) → Invariant digest_of earlier held → Premises digest_of (earlier ++ worked w ∷ []) → IsSuccess w pairs
held_is digest_of tells w fine told held pairs h earlier inv premises =
    let it = inv (store_key_of digest_of w) pairs h in
    one_success digest_of tells w it.0 (earlier ++ worked w ∷ []) (Contains-push earlier (worked w)) (Contains-append_left earlier (worked w ∷ []) (worked it.0) it.1) premises fine it.2.0 told it.2.1.told it.2.1.is_key pairs it.2.1.made
