-- Why bytes are no record.
use Rattle.std.specs.Prelude.{◌≡◌, ◌≢◌, ◌⊎◌, List, [], ◌∷◌, Option, None, Some, Result, Ok, Err}
use Rattle.base_files.specs.Bytes.{Bytes}
use Rattle.ckeys_include_records.specs.Layout.{IsRecord, record_bytes, results_at}
use Rattle.ckeys_include_records.specs.Records.{Record}
use Rattle.ckeys_include_records.specs.declared.entry.CachedResult.{CachedResult}
use Rattle.ckeys_base.specs.declared.error.Error.{Error}
use Rattle.ckeys_base.specs.declared.error.Error.TheVariants.{Io, Deserialization, UnknownFormat, Memory}

-- Out of memory, or the first byte isn't 1, or after the 1 comes what isn't written for any record.
abbrev pub IsNoRecord : Bytes → Error → Type 0
IsNoRecord bytes Memory = Unit {0}
IsNoRecord bytes Io = ⊥
IsNoRecord bytes (UnknownFormat first) = (first ≢ 1) × ((rest : Bytes) × (bytes ≡ first ∷ rest))
IsNoRecord bytes Deserialization = ((rest : Bytes) × (bytes ≡ 1 ∷ rest)) × ((results : List CachedResult) → IsRecord results → bytes ≢ record_bytes results)

-- the bytes of a record; no bytes at all are those of the empty one, too
abbrev pub IsWrittenAs : Bytes → List CachedResult → Type 0
IsWrittenAs bytes results = IsRecord results × ((bytes ≡ record_bytes results) ⊎ ((bytes ≡ []) × (results ≡ [])))

-- what was read, if any; when out of memory nothing is known of it
abbrev pub OnRead : Result Record Error → (Option (List CachedResult) → Type 0) → Type 0
OnRead (Ok entry) P = P (Some entry.results)
OnRead (Err Memory) P = Unit {0}
OnRead (Err Io) P = P None
OnRead (Err (UnknownFormat first)) P = P None
OnRead (Err Deserialization) P = P None

-- Out of memory, or what comes after the first byte can't be read.
abbrev pub IsUnread : Bytes → Error → Type 0
IsUnread bytes Memory = Unit {0}
IsUnread bytes Io = ⊥
IsUnread bytes (UnknownFormat first) = ⊥
IsUnread bytes Deserialization = results_at bytes ≡ None
