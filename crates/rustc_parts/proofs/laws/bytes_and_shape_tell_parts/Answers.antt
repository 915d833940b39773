use Rattle.rustc_parts.proofs.WholeKeys.{parts_are_told}
use Rattle.rustc_parts.proofs.laws.bytes_and_shape_tell_parts.Goals as goal

pub returns : goal.returns
returns c = λ width one other is is_other fits same shaped. parts_are_told width one other is is_other fits same shaped
