use Rattle.std.proofs.Common.{arith, refl}
use Rattle.base_blake2.proofs.Absorbing.{taken_in}
use Rattle.base_blake2.proofs.Blake2b256.take_in.Goals as goal

pub returns : goal.returns
returns c = record {
  waiting = refl;
  held = λ m n a. taken_in c.args.self.now _ m n a (omega arith) c.requires refl refl c.compress.ensures;
}
