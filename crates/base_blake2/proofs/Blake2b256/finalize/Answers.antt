use Rattle.std.proofs.Common.{List, ℕ, ap, arith, refl, take, ◌∙◌}
use Rattle.std.specs.Int.{w64, to_le_bytes}
use Rattle.std.specs.List.{flat_map}
use Rattle.base_blake2.specs.Blake2b.{blake2b}
use Rattle.base_blake2.proofs.Absorbing.{finished, zeros_after}
use Rattle.base_blake2.proofs.Blake2b256.finalize.Goals as goal

pub returns : goal.returns
unfolding blake2b
returns c = λ m a.
    c.first_bytes.ensures ∙ ap (λ (h : List ℕ). take 32 (flat_map (to_le_bytes w64) h))
    (finished c.args.self m _ _ _ a
    (zeros_after c.args.self m _ _ _ _ a (omega arith) (omega arith) (omega arith) (omega arith) (c.fill.ensures.after (λ y e. e)))
    refl c.compress.ensures)
