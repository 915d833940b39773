-- What a state has taken in.
use Rattle.std.specs.Prelude.{◌≡◌, ℕ, ◌+◌, ◌*◌, ◌%◌, ◌^◌, List, length, take, drop}
use Rattle.base_blake2.specs.Blake2b.{blocks_before_last, state_after}
use Rattle.base_blake2.specs.declared.Blake2b256.{Blake2b256}

-- Of a message the first n blocks are taken in, and the rest waits in the buffer.
pub record Absorbed (s : Blake2b256) (m : List ℕ) (n : ℕ) : Type 0 where
  pub bytes : length m ≡ n * 128 + s.waiting
  pub count : s.count ≡ n * 128 % 2 ^ 128
  pub state : s.h ≡ state_after 32 m n
  pub rest : take s.waiting s.buffer ≡ drop (n * 128) m

-- The state holds this message: all but its last block is taken in.
abbrev pub Holds : Blake2b256 → List ℕ → Type 0
Holds s m = Absorbed s m (blocks_before_last (length m))
