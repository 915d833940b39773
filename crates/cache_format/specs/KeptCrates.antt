-- The bytes of what rustc made of a crate.
use Rattle.std.proofs.Common.{List, refl}
use Rattle.base_files.specs.Bytes.{Bytes}
use Rattle.base_formats.specs.FieldFormats.{both_format, counted_format, framed_format, made_format}
use Rattle.base_formats.specs.Formats.{IsFormat}
use Rattle.base_formats.specs.Reading.{Read, both_at, counted_at, framed_at, made_at}
use Rattle.base_formats.specs.Spelling.{BothFit, CountFits, FitsFrame, both, counted, framed}
use Rattle.cache_format.specs.declared.kept_crate.KeptCrate.{KeptCrate}

-- its fields, in order
abbrev pub CrateFields : Type 0
CrateFields = Bytes × (Bytes × (Bytes × (Bytes × List (Bytes × Bytes))))

abbrev pub crate_fields : KeptCrate → CrateFields
crate_fields k = (k.key, (k.folder, (k.width, (k.errors, k.outputs))))

abbrev pub crate_from : CrateFields → KeptCrate
crate_from f = record { key = f.0; folder = f.1.0; width = f.1.1.0; errors = f.1.1.1.0; outputs = f.1.1.1.1 }

-- how it is spelled
abbrev pub crate_bytes : KeptCrate → Bytes
crate_bytes k = both framed (both framed (both framed (both framed (counted (both framed framed))))) (crate_fields k)

-- each length and count fits its eight bytes
abbrev pub CrateFits : KeptCrate → Type 0
CrateFits k = BothFit FitsFrame (BothFit FitsFrame (BothFit FitsFrame (BothFit FitsFrame (CountFits (BothFit FitsFrame FitsFrame))))) (crate_fields k)

-- reading it
unfoldable pub crate_at : Bytes → Read KeptCrate
crate_at = made_at crate_from (both_at framed_at (both_at framed_at (both_at framed_at (both_at framed_at (counted_at (both_at framed_at framed_at))))))

pub crate_format : IsFormat crate_at crate_bytes CrateFits
unfolding crate_at
crate_format = made_format crate_from crate_fields _ _ _ (λ x. refl) (λ y. refl) (both_format _ _ _ _ _ _ framed_format (both_format _ _ _ _ _ _ framed_format (both_format _ _ _ _ _ _ framed_format (both_format _ _ _ _ _ _ framed_format (counted_format _ _ _ (both_format _ _ _ _ _ _ framed_format framed_format))))))
