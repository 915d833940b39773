use Rattle.ckeys_base.proofs.HexLemmas.{length-hex_of, hex_tells}
use Rattle.ckeys_base.proofs.hexadecimal.hex_tells_its_bytes.Goals as goal

pub returns-clause-length : goal.returns-clause-length
returns-clause-length c = length-hex_of

pub returns-clause-tells : goal.returns-clause-tells
returns-clause-tells c = hex_tells
