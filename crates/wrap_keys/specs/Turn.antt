-- One call of a session: what it does to the store, and what its answer reports of the store and of the compiler's runs.
use Rattle.std.specs.Prelude.{◌≡◌, ◌⊎◌, ℕ, true, false, if◌then◌else◌, [], Option, Some, None, IsSome, Result, Ok, Err, OnErr}
use Rattle.base_files.specs.Bytes.{Bytes, ticked}
use Rattle.ckeys_base.specs.Shelf.{Shelf, Within, KeepsKeys}
use Rattle.ckeys.specs.EntryTurns.{IsPut}
use Rattle.ckeys_records.specs.Causes.{ByStage, stage_of}
use Rattle.ckeys_records.specs.Meaning.{AtMostOnce}
use Rattle.ckeys_records.specs.declared.fault.Fault.{Fault}
use Rattle.wrap_keys.specs.CallRecords.{IsTold, key_of}
use Rattle.wrap_keys.specs.Account.{Account, passed, worked, Work, Pairs, IsSuccess}
use Rattle.wrap_keys.specs.Answers.{Placed}
use Rattle.wrap_keys.specs.Sizes.{is_within, size_in, size_of}
use Rattle.wrap_keys.specs.StoreKeys.{store_key_with, IsUnder}
use Rattle.wrap_base.specs.declared.answer.Answer.{Answer}
use Rattle.wrap_base.specs.declared.answer.Answer.TheVariants.{Pass, Outputs}
use Rattle.wrap_base.specs.declared.answer.How.TheVariants.{Direct, Stored, Fresh}
use Rattle.wrap_base.specs.declared.store_key.StoreKey.{StoreKey}

module _ (digest_of : Bytes → Bytes) (text_key : Bytes) (w : Work) (old new : Shelf StoreKey Pairs) (before after : ℕ) where
  -- what was kept is answered: the map held it when the call began, no look-up forgot, no compile ran; and the record's words are distinguishable
  pub record StoredTurn (pairs : Pairs) : Type 0 where
    pub held : old.held (store_key_with digest_of w text_key) ≡ Some pairs
    pub steady : new.forgets ≡ old.forgets
    pub no_compile : after ≡ before
    pub told : IsTold digest_of w.rec

  -- the map held nothing under the call's key, or a look-up forgot it, and one compile ran
  pub record MissTurn : Type 0 where
    pub lacked : (old.held (store_key_with digest_of w text_key) ≡ None) ⊎ (new.forgets ≡ ticked old.forgets)
    pub compile : after ≡ ticked before

-- nothing is refused: where nothing was dropped or refused before and each key is still there, nothing was since
abbrev pub RefusesNothing : Shelf StoreKey Pairs → Shelf StoreKey Pairs → Type 0
RefusesNothing old new = old.kept ≡ true → KeepsKeys old.held new.held → new.kept ≡ true

module _ (digest_of : Bytes → Bytes) (max_kept : Option ℕ) (text_key : Bytes) (w : Work) (old new : Shelf StoreKey Pairs) (before after : ℕ) where
  -- a fresh output is answered: it is what the compiler gives; it is put under the call's key, unless its size is greater than the limit, and is held then, or something was refused or dropped; where that is so, no pair is new and nothing is refused
  pub record FreshTurn (pairs : Pairs) : Type 0 where
    pub miss : MissTurn digest_of text_key w old new before after
    pub made : IsSuccess w pairs
    pub puts : is_within max_kept (size_of pairs) ≡ true → IsPut old new (store_key_with digest_of w text_key) pairs
    pub holds : new.kept ≡ true → is_within max_kept (size_of pairs) ≡ true → new.held (store_key_with digest_of w text_key) ≡ Some pairs
    pub large : is_within max_kept (size_of pairs) ≡ false → Within old.held new.held × RefusesNothing old new

  -- what the answer says: a fault that comes before the compile, that none ran and the store wasn't asked; one of the compile, that the map lacked the key
  abbrev pub Told : Result Answer Fault → Type 0
  Told (Ok (Pass reason)) = ⊥
  Told (Ok (Outputs map Direct dep_info)) = IsSome w.direct × Placed w map (StoredTurn digest_of text_key w old new before after)
  Told (Ok (Outputs map Stored dep_info)) = Placed w map (StoredTurn digest_of text_key w old new before after)
  Told (Ok (Outputs map Fresh dep_info)) = Placed w map FreshTurn
  Told (Err fault) = ByStage (stage_of fault) ((after ≡ before) ⊎ MissTurn digest_of text_key w old new before after) ((new ≡ old) × (after ≡ before)) (MissTurn digest_of text_key w old new before after)

-- a request that is passed through leaves the store as it is and runs no compile
abbrev pub ToldBy : (Bytes → Bytes) → Option ℕ → Bytes → Account → Shelf StoreKey Pairs → Shelf StoreKey Pairs → ℕ → ℕ → Result Answer Fault → Type 0
ToldBy digest_of max_kept text_key (passed why) old new before after result = (new ≡ old) × (after ≡ before)
ToldBy digest_of max_kept text_key (worked w) old new before after result = Told digest_of max_kept text_key w old new before after result

-- a pair that a call adds is its own
abbrev pub IsOwn : (Bytes → Bytes) → Bytes → Account → StoreKey → Pairs → Type 0
IsOwn digest_of text_key (passed why) key pairs = ⊥
IsOwn digest_of text_key (worked w) key pairs = IsUnder digest_of text_key w key pairs

-- where nothing was dropped or refused, nothing was before either, each key is still there, and no look-up forgot
pub record StillKept (old new : Shelf StoreKey Pairs) : Type 0 where
  pub was : old.kept ≡ true
  pub keys : KeepsKeys old.held new.held
  pub steady : new.forgets ≡ old.forgets

-- exactly a fresh answer whose size is within the limit puts a pair, and it puts one
abbrev pub PutsBy : Option ℕ → Result Answer Fault → Shelf StoreKey Pairs → Shelf StoreKey Pairs → Type 0
PutsBy max_kept (Ok (Pass reason)) old new = new.puts ≡ old.puts
PutsBy max_kept (Ok (Outputs map Direct dep_info)) old new = new.puts ≡ old.puts
PutsBy max_kept (Ok (Outputs map Stored dep_info)) old new = new.puts ≡ old.puts
PutsBy max_kept (Ok (Outputs map Fresh dep_info)) old new = new.puts ≡ (if is_within max_kept (size_in map) then ticked old.puts else old.puts)
PutsBy max_kept (Err fault) old new = new.puts ≡ old.puts

-- how often it is looked up: once where there are outputs or the compile has a fault, at most once before out of memory, and else not
abbrev pub GetsBy : Result Answer Fault → Shelf StoreKey Pairs → Shelf StoreKey Pairs → Type 0
GetsBy (Ok (Pass reason)) old new = new.gets ≡ old.gets
GetsBy (Ok (Outputs map how dep_info)) old new = new.gets ≡ ticked old.gets
GetsBy (Err fault) old new = ByStage (stage_of fault) (AtMostOnce old.gets new.gets) (new.gets ≡ old.gets) (new.gets ≡ ticked old.gets)

-- what one call does to the store, which it asks under a key with this digest
pub record KeyedTurn (digest_of : Bytes → Bytes) (max_kept : Option ℕ) (text_key : Bytes) (a : Account) (old new : Shelf StoreKey Pairs) (before after : ℕ) (result : Result Answer Fault) : Type 0 where
  pub gains : (key : StoreKey) (pairs : Pairs) → new.held key ≡ Some pairs → (old.held key ≡ Some pairs) ⊎ IsOwn digest_of text_key a key pairs
  pub faulted : OnErr result (Within old.held new.held)
  pub unrefused : OnErr result (RefusesNothing old new)
  pub kept : new.kept ≡ true → StillKept old new
  pub cleared : new.clears ≡ old.clears
  pub put : PutsBy max_kept result old new
  pub got : GetsBy result old new
  pub told : ToldBy digest_of max_kept text_key a old new before after result

-- the key of the call's own record
abbrev pub own_text_key : (Bytes → Bytes) → Account → Bytes
own_text_key digest_of (passed why) = []
own_text_key digest_of (worked w) = key_of digest_of w.rec

-- what one call does to the store, which it asks under its own key
abbrev pub StoreTurn : (Bytes → Bytes) → Option ℕ → Account → Shelf StoreKey Pairs → Shelf StoreKey Pairs → ℕ → ℕ → Result Answer Fault → Type 0
StoreTurn digest_of max_kept a old new before after result = KeyedTurn digest_of max_kept (own_text_key digest_of a) a old new before after result
