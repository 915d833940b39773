use Rattle.std.proofs.Common.{ap, ◌*◌, ◌∙◌}
use Rattle.ckeys_base.proofs.HexLemmas.{length-hex_of, hex_tells}
use Rattle.ckeys_base.proofs.digest.texts_tell_digests.Goals as goal

pub returns-clause-length : goal.returns-clause-length
returns-clause-length g c = λ bytes.
    length-hex_of (g.H.HashState.digest_of bytes) ∙ ap (λ n. 2 * n) (g.met.H.HashState.digest_length bytes)

pub returns-clause-tells : goal.returns-clause-tells
returns-clause-tells g c = λ one other same.
    hex_tells _ _ (g.met.H.HashState.digest_bytes one) (g.met.H.HashState.digest_bytes other) same
