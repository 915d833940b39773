-- What a disk keeps.
use Rattle.std.specs.Prelude.{◌≡◌, true, List, Option, Some}
use Rattle.std.specs.List.{Contains}
use Rattle.base_files.specs.Bytes.{Bytes}
use Rattle.ckeys_base.specs.Shelf.{Shelf}
use Rattle.ckeys.specs.Calls.{PrintedCall}
use Rattle.ckeys.specs.Entries.{IsRecorded}
use Rattle.ckeys_records.specs.Folders.{Settings}
use Rattle.ckeys_include_records.specs.declared.entry_key.EntryKey.{EntryKey}
use Rattle.ckeys_include_records.specs.Records.{Record}
use Rattle.ckeys_include_records.specs.declared.entry.CachedResult.{CachedResult}
use Rattle.wrap.specs.Account.{Account, Pairs, Work, direct_calls, worked}
use Rattle.wrap.specs.StoreKeys.{IsOf}
use Rattle.wrap_base.specs.declared.store_key.StoreKey.{StoreKey}

-- What is kept, if anything is, is the key of an earlier call, and that call's successful fresh outcome.
abbrev pub IsOfEarlier : (Bytes → Bytes) → List Account → Option (StoreKey × Pairs) → Type 0
IsOfEarlier digest_of earlier entry = (key : StoreKey) (pairs : Pairs) → entry ≡ Some (key, pairs) → (w : Work) × Contains earlier (worked w) × IsOf digest_of w key pairs

-- Each result of the record that is kept, if one is, is that of an earlier call of this configuration, under its entry key.
abbrev pub RecordIsOfEarlier : (Bytes → Bytes) → Settings → List Account → Option (EntryKey × Record) → Type 0
RecordIsOfEarlier digest_of settings earlier kept = (key : EntryKey) (held : Record) → kept ≡ Some (key, held) → (r : CachedResult) → Contains held.results r → (p : PrintedCall) × Contains (direct_calls earlier) p × IsRecorded digest_of settings p key r

-- A store of what is kept, if anything is: it holds nothing else, and it holds that unless a put was refused.
pub record Holds {K V : Type 0} (kept : Option (K × V)) (shelf : Shelf K V) : Type 0 where
  pub only : (key : K) (value : V) → shelf.held key ≡ Some value → kept ≡ Some (key, value)
  pub all : shelf.kept ≡ true → (key : K) (value : V) → kept ≡ Some (key, value) → shelf.held key ≡ Some value
