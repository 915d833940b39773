use Rattle.std.proofs.Common.{◌<◌, List, ℕ, length, ◌++◌, ap, ◌∙◌, subst, arith}
use Rattle.base_formats.specs.Spelling.{FitsFrame, framed}
use Rattle.ckeys_include_records.proofs.PairParts.{fits-more, framed-more}
use Rattle.ckeys_include_records.proofs.framing.framed_pairs.Goals as goal

pub loop-name-preserved : goal.loop-name-preserved
loop-name-preserved c =
    let pairs = c.args.pairs.now in
    let i = c.loop-name.name-index in
    let pair = c.loop-name-item.result in
    let within : i < length pairs = omega arith in
    let name = c.as_bytes.ensures in
    let value = c.as_bytes-in-loop-name.ensures in
    record {
      bytes =
          c.in_ok-put_framed-2.ensures.added
          ∙ ap (λ (bytes : List ℕ). c.put_framed.new.out.items ++ framed bytes) value
          ∙ ap (λ (bytes : List ℕ). bytes ++ framed pair.1) (c.in_ok-put_framed.ensures.added ∙ ap (λ (bytes : List ℕ). c.loop-name.out.items ++ framed bytes) name)
          ∙ ap (λ (bytes : List ℕ). (bytes ++ framed pair.0) ++ framed pair.1) c.loop-name.invariant.bytes
          ∙ framed-more pairs i pair within c.loop-name-item.is;
      fits = fits-more pairs i pair within c.loop-name-item.is c.loop-name.invariant.fits (subst FitsFrame name c.put_framed.ensures.fits) (subst FitsFrame value c.put_framed-in-loop-name.ensures.fits);
    }
