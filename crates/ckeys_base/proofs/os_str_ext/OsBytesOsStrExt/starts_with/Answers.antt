use Rattle.std.proofs.Common.{drop, length}
use Rattle.std.proofs.lemmas.Slice.Eq.{starts_is}
use Rattle.std.proofs.lemmas.Bool.Decides.{Decides-eqb}
use Rattle.ckeys_base.proofs.os_str_ext.OsBytesOsStrExt.starts_with.Goals as goal

pub returns : goal.returns
returns c =
    let same = rw (c.as_bytes.ensures, c.as_bytes-2.ensures.value) at c.starts_with.ensures.value in
    let parts = starts_is Decides-eqb c.args.self.now c.args.prefix.now c.starts_with.result same in
    (λ yes. (drop (length c.args.prefix.now) c.args.self.now, parts.0 yes), λ some. parts.1 some.0 some.1)
