use Rattle.std.proofs.Common.{◌≡◌, take}
use Rattle.std.specs.Prelude.{string_bytes}
use Rattle.ckeys_base.specs.Hex.{hex_of}
use Rattle.ckeys_base.proofs.hexadecimal.hex.Given as goal

abbrev pub invariant-loop-byte : goal.invariant-loop-byte
invariant-loop-byte l = string_bytes l.text ≡ hex_of (take l.byte-index l.bytes)
