use Rattle.std.proofs.Common.{refl}
use Rattle.base_blake2.specs.Blake2b.{state_after}
use Rattle.base_blake2.proofs.Blake2b256.new.Goals as goal

pub returns : goal.returns
unfolding state_after
returns c = record { bytes = refl; count = refl; state = refl; rest = refl }
