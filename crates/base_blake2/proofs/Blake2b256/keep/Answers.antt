use Rattle.std.proofs.Common.{arith, refl}
use Rattle.base_blake2.proofs.Absorbing.{kept, written}
use Rattle.base_blake2.proofs.Blake2b256.keep.Goals as goal

pub returns : goal.returns
returns c = record {
  waiting = refl;
  held = λ m n a.
      kept c.args.self.now _ m c.args.bytes.now n a refl refl refl
      (written c.args.self.now c.args.bytes.now _ _ _ (omega arith) (omega arith) refl c.copy_from_slice.ensures.after);
}
