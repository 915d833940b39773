use Rattle.rustc_compiler.proofs.DigestForms.{hex_is_digest}
use Rattle.rustc_compiler.proofs.laws.digests_are_formed.Goals as goal

pub returns : goal.returns
returns g c = λ bytes. hex_is_digest _ (g.H.HashState.digest_of bytes) (g.met.H.HashState.digest_bytes bytes) (c.texts_tell_digests.ensures.length bytes)
