use Rattle.std.proofs.lemmas.Slice.Eq.{strip_prefix_is}
use Rattle.std.proofs.lemmas.Bool.Decides.{Decides-eqb}
use Rattle.ckeys_base.proofs.os_str_ext.OsBytesOsStrExt.split_prefix.Goals as goal

pub returns : goal.returns
returns c = rw (c.as_bytes.ensures, c.as_bytes-2.ensures.value) at (strip_prefix_is Decides-eqb c.as_bytes.result.now c.as_bytes-2.result.now c.strip_prefix.result c.strip_prefix.ensures.cases)
