use Rattle.rustc_texts.proofs.MetadataLaws.{metadata-after, metadata-in-place}
use Rattle.rustc_texts.proofs.laws.metadata_is_that_of_each_library.Goals as goal

pub returns : goal.returns
returns c = record { after = metadata-after; in_place = metadata-in-place }
