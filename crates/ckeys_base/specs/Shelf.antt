-- What a store holds, and what its calls do to it.
use Rattle.std.specs.Prelude.{◌≡◌, ◌⊎◌, ◌↔◌, ℕ, Option, Some, None, Bool, true, IsSome, IsNone, Result, IsOk, MatchResult}
use Rattle.base_files.specs.Bytes.{ticked}

-- what can be seen of a store
pub record Shelf (K V : Type 0) : Type 0 where
  pub held : K → Option V  -- what lies under each key
  pub kept : Bool  -- whether nothing was dropped or refused yet
  pub forgets : ℕ  -- how often a look-up answered nothing for a key held just before, modulo 2 ^ 64
  pub clears : ℕ  -- how often all was dropped on demand, modulo 2 ^ 64
  pub puts : ℕ  -- how often a pair was put, taken or refused, modulo 2 ^ 64
  pub gets : ℕ  -- how often a look-up was asked, modulo 2 ^ 64

-- nothing is held
abbrev pub IsEmpty : {K V : Type 0} → Shelf K V → Type 0
IsEmpty {K} shelf = (key : K) → shelf.held key ≡ None

-- the key was held before and is answered by nothing
abbrev pub Forgotten : {V : Type 0} → Option V → Option V → Type 0
Forgotten before answer = IsSome before × IsNone answer

module _ {K V : Type 0} where
  -- new has no pair that old has not
  abbrev pub Within : (K → Option V) → (K → Option V) → Type 0
  Within old new = (q : K) (v : V) → new q ≡ Some v → old q ≡ Some v

  -- new has no pair that old has not, but for this one
  abbrev pub GainsAtMost : (K → K → Bool) → K → V → (K → Option V) → (K → Option V) → Type 0
  GainsAtMost eq key value old new = (q : K) (v : V) → new q ≡ Some v → (old q ≡ Some v) ⊎ ((eq q key ≡ true) × (v ≡ value))

  -- each key of old is in new
  abbrev pub KeepsKeys : (K → Option V) → (K → Option V) → Type 0
  KeepsKeys old new = (q : K) → IsSome (old q) → IsSome (new q)

  -- A look-up: the answer is what the map holds then. Pairs may be dropped first.
  pub record Asks (old new : Shelf K V) (key : K) (answer : Option V) : Type 0 where
    pub value : answer ≡ new.held key
    pub within : Within old.held new.held
    pub kept : (new.kept ≡ true) ↔ ((old.kept ≡ true) × KeepsKeys old.held new.held)
    pub forgot : Forgotten (old.held key) answer → new.forgets ≡ ticked old.forgets
    pub steady : (Forgotten (old.held key) answer → ⊥) → new.forgets ≡ old.forgets
    pub cleared : new.clears ≡ old.clears
    pub put : new.puts ≡ old.puts
    pub got : new.gets ≡ ticked old.gets

  -- A put: the pair is added, or handed back. Other pairs may be dropped.
  pub record Puts (eq : K → K → Bool) (old new : Shelf K V) (key : K) (value : V) (result : Result (Unit {0}) (K × V)) : Type 0 where
    pub gains : GainsAtMost eq key value old.held new.held
    pub outcome : MatchResult result (λ _. new.held key ≡ Some value) (λ pair. (pair ≡ (key, value)) × Within old.held new.held)
    pub kept : (new.kept ≡ true) ↔ ((old.kept ≡ true) × KeepsKeys old.held new.held × IsOk result)
    pub steady : new.forgets ≡ old.forgets
    pub cleared : new.clears ≡ old.clears
    pub put : new.puts ≡ ticked old.puts
    pub got : new.gets ≡ old.gets

  -- All is dropped on demand.
  pub record Clears (old new : Shelf K V) : Type 0 where
    pub empty : (q : K) → new.held q ≡ None
    pub kept : (new.kept ≡ true) ↔ ((old.kept ≡ true) × KeepsKeys old.held new.held)
    pub steady : new.forgets ≡ old.forgets
    pub cleared : new.clears ≡ ticked old.clears
    pub put : new.puts ≡ old.puts
    pub got : new.gets ≡ old.gets
