use Rattle.std.proofs.Common.{arith}
use Rattle.base_blake2.proofs.Words.{vector_is}
use Rattle.base_blake2.proofs.compress.vector.Goals as goal

pub returns : goal.returns
returns c = rw c.mark.ensures (vector_is c.args.h.now c.args.count c.args.last (omega arith) (omega arith))
