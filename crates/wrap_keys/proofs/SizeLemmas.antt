-- The size of a result, by what is kept of it and by what is answered.
use Rattle.std.proofs.Common.{◌≡◌, [], ◌∷◌, length, map, refl, ap}
use Rattle.std.specs.Prelude.{sum}
use Rattle.cmdlines_base.specs.Artifacts.{Artifacts}
use Rattle.wrap_keys.specs.Account.{Pairs, placed}
use Rattle.wrap_keys.specs.Sizes.{size_in, size_of}
use Rattle.wrap_base.specs.declared.answer.Output.{Output}

lengths_placed : (outputs : Artifacts) (pairs : Pairs) → map (λ (output : Output). length output.contents) (placed outputs pairs) ≡ map (λ pair. length pair.1) pairs
lengths_placed outputs [] = refl
lengths_placed outputs (pair ∷ pairs) = ap (λ lengths. length pair.1 ∷ lengths) (lengths_placed outputs pairs)

-- on a request's own paths outputs have the size of what is kept of them
pub size_placed : (outputs : Artifacts) (pairs : Pairs) → size_in (placed outputs pairs) ≡ size_of pairs
size_placed outputs pairs = ap sum (lengths_placed outputs pairs)
