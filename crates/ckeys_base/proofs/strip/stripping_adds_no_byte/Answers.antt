use Rattle.ckeys_base.proofs.KeptBytes.{none_added}
use Rattle.ckeys_base.proofs.strip.stripping_adds_no_byte.Goals as goal

pub returns : goal.returns
returns c = none_added
