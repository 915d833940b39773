use Rattle.std.proofs.Common.{◌≡◌, Some, length, ◌+◌, ◌-◌, sym, ap, ◌∙◌, arith}
use Rattle.cache_format.proofs.Sealing.{not_none, only_this, sealed, told, unsealed, untold}
use Rattle.cache_format.proofs.sealed.read_sealed.Goals as goal

pub returns-then-ne : goal.returns-then-ne
returns-then-ne g c =
    let digest_of = g.H.HashState.digest_of in
    let reads = g.T.Field.reads in
    let spells = g.T.Field.spells in
    let format = g.T.Field.is_format in
    let version = c.args.version in
    let bytes = c.args.bytes.now in
    let front = c.split_at.result.0.now in
    let end = c.split_at.result.1.now in
    let n = length bytes - c.LEN-2.result in
    let at : n + g.H.HashState.LEN ≡ length bytes = omega (arith, c.LEN.ensures, c.LEN-2.ensures, c.if-bytes-LEN.false) in
    record {
      found = tt;
      only = λ value is. absurd (told c.as_slice.result.now end c.ne.result c.ne.ensures c.if-ne.true ((c.as_slice.ensures.value ∙ c.in_ok-digest.ensures) ∙ sym (unsealed reads spells g.T.Field.fits format version digest_of g.H.HashState.LEN g.met.H.HashState.digest_length bytes front end n at c.split_at.ensures.front c.split_at.ensures.back value is.1).1));
    }

pub returns-in-Ok : goal.returns-in-Ok
returns-in-Ok g c =
    let digest_of = g.H.HashState.digest_of in
    let reads = g.T.Field.reads in
    let spells = g.T.Field.spells in
    let format = g.T.Field.is_format in
    let version = c.args.version in
    let bytes = c.args.bytes.now in
    let front = c.split_at.result.0.now in
    let end = c.split_at.result.1.now in
    let n = length bytes - c.LEN-2.result in
    let at : n + g.H.HashState.LEN ≡ length bytes = omega (arith, c.LEN.ensures, c.LEN-2.ensures, c.if-bytes-LEN.false) in
    record {
      found = sealed reads spells g.T.Field.fits format version digest_of g.H.HashState.LEN g.met.H.HashState.digest_length bytes front end n at c.split_at.ensures.front c.split_at.ensures.back c.in-Ok.value (λ i. omega (arith, c.type_inv.bytes i)) c.in-Ok.ensures (sym (c.as_slice.ensures.value ∙ c.in_ok-digest.ensures) ∙ untold c.as_slice.result.now end c.ne.result c.ne.ensures c.if-ne.false);
      only = λ value is. ap Some (only_this reads spells g.T.Field.fits format version digest_of g.H.HashState.LEN g.met.H.HashState.digest_length bytes front end n at c.split_at.ensures.front c.split_at.ensures.back value c.in-Ok.value is.0 is.1 c.in-Ok.ensures);
    }

pub returns-in-Err-Unfit : goal.returns-in-Err-Unfit
returns-in-Err-Unfit g c =
    let digest_of = g.H.HashState.digest_of in
    let reads = g.T.Field.reads in
    let spells = g.T.Field.spells in
    let format = g.T.Field.is_format in
    let version = c.args.version in
    let bytes = c.args.bytes.now in
    let front = c.split_at.result.0.now in
    let end = c.split_at.result.1.now in
    let n = length bytes - c.LEN-2.result in
    let at : n + g.H.HashState.LEN ≡ length bytes = omega (arith, c.LEN.ensures, c.LEN-2.ensures, c.if-bytes-LEN.false) in
    record {
      found = tt;
      only = λ value is. absurd (not_none reads spells g.T.Field.fits format version digest_of g.H.HashState.LEN g.met.H.HashState.digest_length bytes front end n at c.split_at.ensures.front c.split_at.ensures.back value is.0 is.1 (rw c.in-Err-Unfit.field-0-is at c.in-Err-Unfit.ensures));
    }
