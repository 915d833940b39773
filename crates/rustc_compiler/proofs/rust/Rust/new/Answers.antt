use Rattle.std.proofs.Common.{◌*◌, subst}
use Rattle.ckeys_base.specs.Hex.{hex_of}
use Rattle.rustc_parts.specs.Formed.{IsDigest}
use Rattle.rustc_compiler.proofs.DigestForms.{files_are_formed}
use Rattle.rustc_compiler.proofs.rust.Rust.new.Goals as goal

pub invariant_of-result : goal.invariant_of-result
invariant_of-result g c =
    let digest_of = g.H.HashState.digest_of in
    files_are_formed digest_of 64
    (λ bytes. subst (λ n. IsDigest (2 * n) (hex_of (digest_of bytes))) c.requires (c.digests_are_formed.ensures bytes))
    (g.F.Files.tree c.args.files.now) c.as_slice.result.now _ c.in_ok-toolchain.ensures.digests
