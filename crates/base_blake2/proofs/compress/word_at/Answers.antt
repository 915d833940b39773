use Rattle.std.proofs.Common.{List, ℕ, ap, sym, ◌∙◌}
use Rattle.std.specs.Int.{w64, from_le_bytes}
use Rattle.base_blake2.specs.Blake2b.{word_at}
use Rattle.base_blake2.proofs.Words.{eight_from}
use Rattle.base_blake2.proofs.compress.word_at.Goals as goal

pub returns : goal.returns
unfolding word_at
returns c = c.from_le_bytes.ensures ∙ sym (ap (λ (x : List ℕ). from_le_bytes w64 x) (eight_from c.args.block.now c.args.i c.requires))
