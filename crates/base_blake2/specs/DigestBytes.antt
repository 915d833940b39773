-- Each digest is a byte string of 32 bytes.
use Rattle.std.specs.Prelude.{◌≡◌, ℕ, ◌<◌, zero, suc, List, [], ◌∷◌, length, take, refl}
use Rattle.std.specs.Int.{w64, byte_at, bytes_low_first, to_le_bytes}
use Rattle.std.specs.List.{flat_map}
use Rattle.std.proofs.Common.{arith}
use Rattle.std.proofs.lemmas.List.Elements.{All-append, All-cons, All-nil, All-take}
use Rattle.ckeys_base.specs.Hex.{AreBytes}
use Rattle.base_blake2.specs.Blake2b.{blake2b, blake2b-256, compress, final_state, folded}

length-folded : (h v : List ℕ) → length (take 32 (flat_map (to_le_bytes w64) (folded h v))) ≡ 32
unfolding folded
length-folded h v = refl

pub length-blake2b-256 : (m : List ℕ) → length (blake2b-256 m) ≡ 32
unfolding blake2b final_state compress
length-blake2b-256 m = length-folded _ _

byte_at-lt : (i n : ℕ) → byte_at i n < 256
byte_at-lt zero n = omega arith
byte_at-lt (suc i) n = omega arith

AreBytes-low_first : (i count n : ℕ) → AreBytes (bytes_low_first i count n)
AreBytes-low_first i zero n = All-nil _
AreBytes-low_first i (suc count) n = All-cons (λ b. b < 256) (byte_at i n) _ (byte_at-lt i n) (AreBytes-low_first (suc i) count n)

AreBytes-words : (words : List ℕ) → AreBytes (flat_map (to_le_bytes w64) words)
AreBytes-words [] = All-nil _
AreBytes-words (word ∷ words) = All-append (λ b. b < 256) (to_le_bytes w64 word) (flat_map (to_le_bytes w64) words) (AreBytes-low_first 0 8 word) (AreBytes-words words)

pub AreBytes-blake2b-256 : (m : List ℕ) → AreBytes (blake2b-256 m)
unfolding blake2b
AreBytes-blake2b-256 m = All-take (λ b. b < 256) 32 (flat_map (to_le_bytes w64) (final_state 32 m)) (AreBytes-words (final_state 32 m))
