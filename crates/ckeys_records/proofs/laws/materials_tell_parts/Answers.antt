use Rattle.ckeys_records.proofs.MaterialLemmas.{told}
use Rattle.ckeys_records.proofs.laws.materials_tell_parts.Goals as goal

pub returns : goal.returns
returns c = told
