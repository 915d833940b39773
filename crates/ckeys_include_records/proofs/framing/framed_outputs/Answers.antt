use Rattle.std.proofs.Common.{◌<◌, List, ℕ, length, ◌++◌, ap, ◌∙◌, subst, arith}
use Rattle.base_formats.specs.Spelling.{FitsFrame, framed}
use Rattle.ckeys_include_records.proofs.PairParts.{fits-outputs_more, framed-outputs_more}
use Rattle.ckeys_include_records.proofs.framing.framed_outputs.Goals as goal

pub loop-name-preserved : goal.loop-name-preserved
loop-name-preserved c =
    let outputs = c.args.outputs.now in
    let i = c.loop-name.name-index in
    let output = c.loop-name-item.result in
    let within : i < length outputs = omega arith in
    let name = c.as_bytes.ensures in
    let value = c.as_bytes-in-loop-name.ensures in
    record {
      bytes =
          c.in_ok-put_framed-2.ensures.added
          ∙ ap (λ (bytes : List ℕ). c.put_framed.new.out.items ++ framed bytes) value
          ∙ ap (λ (bytes : List ℕ). bytes ++ framed output.1.path) (c.in_ok-put_framed.ensures.added ∙ ap (λ (bytes : List ℕ). c.loop-name.out.items ++ framed bytes) name)
          ∙ ap (λ (bytes : List ℕ). (bytes ++ framed output.0) ++ framed output.1.path) c.loop-name.invariant.bytes
          ∙ framed-outputs_more outputs i output within c.loop-name-item.is;
      fits = fits-outputs_more outputs i output within c.loop-name-item.is c.loop-name.invariant.fits (subst FitsFrame name c.put_framed.ensures.fits) (subst FitsFrame value c.put_framed-in-loop-name.ensures.fits);
    }
