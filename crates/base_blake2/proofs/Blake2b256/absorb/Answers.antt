use Rattle.std.proofs.Common.{◌≡◌, ℕ, ◌+◌, ◌-◌, ◌*◌, ◌/◌, length, arith, refl}
use Rattle.std.proofs.lemmas.List.{take_rest}
use Rattle.base_blake2.proofs.Absorbing.{held_after, next_of, none_of}
use Rattle.base_blake2.proofs.Blake2b256.absorb.Goals as goal

pub blocks-2-init : goal.blocks-2-init
blocks-2-init c = (c.requires.empty, λ m n a. none_of c.args.self.now m c.args.bytes.now n a)

pub blocks-2-preserved : goal.blocks-2-preserved
blocks-2-preserved c =
    let width : 128 * c.blocks-2.i + 128 - 128 * c.blocks-2.i ≡ 128 = omega arith in (
      c.blocks-2.invariant.0,
      λ m n a.
          next_of c.blocks-2.self _ m c.args.bytes.now _ n c.blocks-2.i (c.blocks-2.invariant.1 m n a) c.blocks-2.invariant.0 (omega arith) (rw width refl)
          c.blocks-2.invariant.0 refl c.compress.ensures,
    )

pub returns : goal.returns
returns c = λ m n a.
    let i : ℕ = (length c.args.bytes.now - 1) / 128 in
    let same : c.blocks-2.i ≡ i = omega arith in
    let before = rw same at (c.blocks-2.invariant.1 m n a) in
    held_after _ m c.args.bytes.now _ n i (omega (arith, a.bytes)) c.requires.more refl (take_rest c.args.bytes.now (128 * i)) (c.keep.ensures.held _ _ before)
