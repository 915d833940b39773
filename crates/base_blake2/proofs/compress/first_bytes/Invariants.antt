use Rattle.std.proofs.Common.{◌≡◌, ◌*◌, length, take}
use Rattle.std.specs.Int.{w64, to_le_bytes}
use Rattle.std.specs.List.{flat_map}
use Rattle.base_blake2.proofs.compress.first_bytes.Given as goal

abbrev pub invariant-words : goal.invariant-words
invariant-words l = (length l.bytes ≡ 32) × (take (8 * l.i) l.bytes ≡ flat_map (to_le_bytes w64) (take l.i l.h))
