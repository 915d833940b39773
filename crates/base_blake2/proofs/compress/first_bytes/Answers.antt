use Rattle.std.proofs.Common.{rules, ◌≡◌, arith, sym, ◌∙◌}
use Rattle.std.proofs.lemmas.List.{take_all}
use Rattle.std.proofs.lemmas.Slice.{overwrites}
use Rattle.base_blake2.proofs.Words.{bytes_more, first_four}
use Rattle.base_blake2.proofs.compress.first_bytes.Goals as goal

pub words-preserved : goal.words-preserved
words-preserved c = (
  search (rules, overwrites),
  bytes_more c.words.bytes c.args.h.now _ c.words.i _ c.words.invariant.1 (omega arith) (omega arith) (c.copy_from_slice.ensures.after ∙ c.to_le_bytes.ensures),
)

pub returns : goal.returns
returns c =
    let done : c.words.i ≡ 4 = omega arith in
    let words = rw done at c.words.invariant.1 in
    sym (take_all 32 c.words.bytes (omega arith)) ∙ words ∙ first_four c.args.h.now (omega arith)
