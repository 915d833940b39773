-- What a bounded store holds, in which order its pairs were used, and what its calls do to that order.
use Rattle.std.specs.Prelude.{◌≡◌, ◌⊎◌, ◌<◌, ℕ, Bool, false, true, None, IsSome, Result, IsOk, OnOk, OnErr, List, [], ◌∷◌, ◌++◌, length}
use Rattle.std.specs.Map.{lookup}
use Rattle.ckeys_base.specs.Shelf.{Shelf}
use Rattle.base_bounded_store.specs.declared.lru_store.LruStore.{LruStore}

module _ {K V : Type 0} where
  -- what can be seen of it: no look-up forgets
  abbrev pub shelf_of : (K → K → Bool) → LruStore K V → Shelf K V
  shelf_of eq s = record { held = λ key. lookup (eq key) s.cache.entries; kept = s.kept; forgets = 0; clears = s.cleared; puts = s.puts; gets = s.gets }

  -- its pairs, the most recently used first
  abbrev pub uses_of : LruStore K V → List (K × V)
  uses_of s = s.cache.entries

  -- how many pairs it holds
  abbrev pub count_of : LruStore K V → ℕ
  count_of s = length s.cache.entries

  -- how many it holds at most
  abbrev pub capacity_of : LruStore K V → ℕ
  capacity_of s = s.cache.cap

  -- a put of the key drops nothing: the key is held, or the store isn't full
  abbrev pub HasRoomFor : (K → K → Bool) → LruStore K V → K → Type 0
  HasRoomFor eq s key = IsSome ((shelf_of eq s).held key) ⊎ (count_of s < capacity_of s)

  -- A look-up makes the key's pair the most recently used, and leaves the others in their order. Where there is none, nothing moves.
  pub record MakesFirst (eq : K → K → Bool) (old new : LruStore K V) (key : K) : Type 0 where
    pub found : (before : List (K × V)) (pair : K × V) (after : List (K × V)) → uses_of old ≡ before ++ pair ∷ after → eq key pair.0 ≡ true
        → uses_of new ≡ pair ∷ (before ++ after)
    pub missed : (shelf_of eq old).held key ≡ None → uses_of new ≡ uses_of old
    pub capacity : capacity_of new ≡ capacity_of old

  -- A put makes its pair the most recently used, and leaves the others in their order.
  pub record PutsFirst (eq : K → K → Bool) (old new : LruStore K V) (key : K) (value : V) (result : Result (Unit {0}) (K × V)) : Type 0 where
    -- a held key has the new value, drops nothing and is never refused
    pub replaced : (before : List (K × V)) (pair : K × V) (after : List (K × V)) → uses_of old ≡ before ++ pair ∷ after → eq key pair.0 ≡ true
        → IsOk result × (uses_of new ≡ (pair.0, value) ∷ (before ++ after))
    -- a new key in a store that isn't full drops nothing
    pub added : (shelf_of eq old).held key ≡ None → count_of old < capacity_of old → OnOk result (uses_of new ≡ (key, value) ∷ uses_of old)
    -- a new key in a full store drops the least recently used pair, and that is seen
    pub dropped : (shelf_of eq old).held key ≡ None → count_of old ≡ capacity_of old → (others : List (K × V)) (last : K × V) → uses_of old ≡ others ++ last ∷ []
        → OnOk result ((uses_of new ≡ (key, value) ∷ others) × (new.kept ≡ false))
    pub refused : OnErr result ((uses_of new ≡ uses_of old) × (new.kept ≡ false))
    pub capacity : capacity_of new ≡ capacity_of old
