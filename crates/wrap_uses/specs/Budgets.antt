-- What a store with a budget takes.
use Rattle.std.specs.Prelude.{◌≡◌, ◌⊎◌, ◌+◌, ◌<◌, ◌&&◌, not, ℕ, Bool, IsErr, Option, None, Some, Result, Ok, Err, length, map, sum}
use Rattle.wrap.specs.Account.{Pairs}
use Rattle.wrap.specs.Shelf.{Puts, Shelf}
use Rattle.wrap_base.specs.declared.store_key.StoreKey.{StoreKey}
use Rattle.wrap_uses.specs.declared.budget.BudgetStore.{BudgetStore}

-- how many bytes the contents of outputs have together
abbrev pub size_of : Pairs → ℕ
size_of pairs = sum (map (λ pair. length pair.1) pairs)

-- what is left of a number of bytes after so many: none where they are more
abbrev pub Left : ℕ → ℕ → Option ℕ → Type 0
Left bytes size None = bytes < size
Left bytes size (Some left) = left + size ≡ bytes

-- what a put takes from what is left: the size of what is kept, and nothing where it's refused
abbrev pub Spends : ℕ → ℕ → ℕ → Result (Unit {0}) (StoreKey × Pairs) → Type 0
Spends size left left_new (Ok u) = left_new + size ≡ left
Spends size left left_new (Err pair) = left_new ≡ left

-- a put is refused where its size is greater than what is left, or by the other store
abbrev pub IsRefused : {O : Type 0} → (StoreKey → StoreKey → Bool) → (O → Shelf StoreKey Pairs) → BudgetStore O → BudgetStore O → StoreKey → Pairs → Type 0
IsRefused eq shelf old new key value = (old.left < size_of value) ⊎ ((result : Result (Unit {0}) (StoreKey × Pairs)) × Puts eq (shelf old.inner) (shelf new.inner) key value result × IsErr result)

-- what can be seen of it: what the other store holds, and whether that one or the budget refused anything
abbrev pub shelf_of : {O : Type 0} → (O → Shelf StoreKey Pairs) → BudgetStore O → Shelf StoreKey Pairs
shelf_of shelf s = record { held = (shelf s.inner).held; kept = (shelf s.inner).kept && not s.refused; forgets = (shelf s.inner).forgets; clears = (shelf s.inner).clears; puts = s.puts; gets = (shelf s.inner).gets }
