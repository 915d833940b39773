-- What a map store holds, and what a put does to it.
use Rattle.std.specs.Prelude.{◌≡◌, ◌+◌, ℕ, Bool, false, true, Some, Result, OnOk, OnErr, if◌then◌else◌}
use Rattle.std.specs.HashMap.{get, hash_map_len}
use Rattle.std.specs.Option.{is_some}
use Rattle.base_files.specs.Bytes.{ticked}
use Rattle.ckeys_base.specs.Shelf.{Shelf}
use Rattle.wrap_base.specs.declared.map_store.MapStore.{MapStore}

-- what can be seen of it: no look-up forgets
abbrev pub shelf_of : {K V : Type 0} → (K → K → Bool) → MapStore K V → Shelf K V
shelf_of eq s = record { held = λ key. get eq s.map key; kept = s.kept; forgets = 0; clears = s.cleared; puts = s.puts; gets = s.gets }

-- it is as it was, but that one look-up more is counted
abbrev pub asked_once : {K V : Type 0} → MapStore K V → MapStore K V
asked_once s = record { map = s.map; kept = s.kept; cleared = s.cleared; puts = s.puts; gets = ticked s.gets }

-- how many keys have a pair
abbrev pub count_of : {K V : Type 0} → MapStore K V → ℕ
count_of s = hash_map_len s.map

-- A put changes what its key holds, and nothing else: a key that had a pair has the new one, and another is one more. Where it is refused, it changes nothing.
pub record PutsAlone {K V : Type 0} (eq : K → K → Bool) (old new : MapStore K V) (key : K) (value : V) (result : Result (Unit {0}) (K × V)) : Type 0 where
  pub others : (q : K) → eq q key ≡ false → (shelf_of eq new).held q ≡ (shelf_of eq old).held q
  pub replaced : OnOk result ((q : K) → eq q key ≡ true → (shelf_of eq new).held q ≡ Some value)
  pub counted : OnOk result (count_of new ≡ count_of old + (if is_some ((shelf_of eq old).held key) then 0 else 1))
  pub refused : OnErr result (((q : K) → (shelf_of eq new).held q ≡ (shelf_of eq old).held q) × (count_of new ≡ count_of old))
