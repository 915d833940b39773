use Rattle.std.proofs.Common.{◌≡◌, length, string_bytes}
use Rattle.ckeys_base.proofs.HexLemmas.{IfOk-length}
use Rattle.ckeys_base.proofs.digest.Digest.finish.Goals as goal

pub returns-clause-length : goal.returns-clause-length
returns-clause-length g c =
    let many : length c.deref.result.now ≡ g.H.HashState.LEN = cc c.in_ok-bytes.ensures.length in
    IfOk-length string_bytes c.hex.result c.deref.result.now g.H.HashState.LEN many c.hex.ensures
