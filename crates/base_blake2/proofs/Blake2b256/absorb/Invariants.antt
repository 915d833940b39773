use Rattle.std.proofs.Common.{◌≡◌, ℕ, List, ◌++◌, ◌+◌, ◌*◌, take}
use Rattle.base_blake2.specs.Hashers.{Absorbed}
use Rattle.base_blake2.proofs.Blake2b256.absorb.Given as goal

abbrev pub invariant-blocks-2 : goal.invariant-blocks-2
invariant-blocks-2 l = (l.self.waiting ≡ 0)
    × ((m : List ℕ) (n : ℕ) → Absorbed l.fn.self m n → Absorbed l.self (m ++ take (128 * l.i) l.bytes) (n + l.i))
