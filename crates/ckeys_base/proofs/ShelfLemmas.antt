-- What a store that kept all has lost: nothing.
use Rattle.std.proofs.Common.{◌≡◌, true, Option, Some, None, IsSome, refl, sym}
use Rattle.ckeys_base.specs.Shelf.{Shelf, Asks}

-- an answer that says nothing new, and says something where the old one did, is the old one
same_answer : {V : Type 0} (old new : Option V) → ((v : V) → new ≡ Some v → old ≡ Some v) → (IsSome old → IsSome new) → new ≡ old
same_answer old (Some v) within keeps = sym (within v refl)
same_answer None None within keeps = refl
same_answer (Some v) None within keeps = let there = keeps refl in cc

pub held_as_before : {K V : Type 0} (old new : Shelf K V) (key : K) (answer : Option V) → Asks old new key answer → new.kept ≡ true → (q : K) → new.held q ≡ old.held q
held_as_before old new key answer asks kept q = same_answer (old.held q) (new.held q) (asks.within q) ((asks.kept.0 kept).1 q)

pub none_forgotten : {K V : Type 0} (old new : Shelf K V) (key : K) (answer : Option V) → Asks old new key answer → new.kept ≡ true → new.forgets ≡ old.forgets
none_forgotten old new key answer asks kept = asks.steady (λ lost.
    let there = (asks.kept.0 kept).1 key lost.0 in
    let gone = lost.1 in
    let same = asks.value in
    cc)
