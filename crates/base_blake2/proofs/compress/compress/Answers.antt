use Rattle.base_blake2.specs.Blake2b.{compress, rounds}
use Rattle.base_blake2.proofs.compress.compress.Goals as goal

pub returns : goal.returns
unfolding compress rounds
returns c = cc
