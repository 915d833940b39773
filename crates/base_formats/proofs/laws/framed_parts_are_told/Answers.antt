use Rattle.base_formats.proofs.FramedParts.{framed_all-told}
use Rattle.base_formats.proofs.laws.framed_parts_are_told.Goals as goal

pub returns : goal.returns
returns c = framed_all-told
