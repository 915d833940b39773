use Rattle.std.proofs.Common.{◌≡◌, take}
use Rattle.rustc_texts.specs.Rewriting.{escaped}
use Rattle.rustc_texts.proofs.rewriting.escaped.Given as goal

-- the bytes so far
abbrev pub invariant-loop-byte : goal.invariant-loop-byte
invariant-loop-byte l = l.written.items ≡ escaped (take l.byte-index l.path)
