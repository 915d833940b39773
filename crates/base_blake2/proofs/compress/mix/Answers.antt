use Rattle.base_blake2.specs.Blake2b.{mix}
use Rattle.base_blake2.proofs.compress.mix.Goals as goal

pub returns : goal.returns
unfolding mix
returns c = rw (c.xor_turned.ensures, c.xor_turned-d2.ensures, c.xor_turned-b1.ensures, c.xor_turned-d1.ensures)
