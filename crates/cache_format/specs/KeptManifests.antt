-- The bytes of an manifest with what it is kept under.
use Rattle.std.proofs.Common.{refl}
use Rattle.base_files.specs.Bytes.{Bytes}
use Rattle.base_formats.specs.FieldFormats.{both_format, framed_format, made_format}
use Rattle.base_formats.specs.Formats.{IsFormat}
use Rattle.base_formats.specs.Reading.{Read, both_at, framed_at, made_at}
use Rattle.base_formats.specs.Spelling.{BothFit, FitsFrame, both, framed}
use Rattle.cache_format.specs.declared.kept_manifest.KeptManifest.{KeptManifest}

-- its fields, in order
abbrev pub KeptFields : Type 0
KeptFields = Bytes × (Bytes × (Bytes × (Bytes × Bytes)))

abbrev pub kept_fields : KeptManifest → KeptFields
kept_fields k = (k.zone, (k.identity, (k.key, (k.results, k.watched))))

abbrev pub kept_from : KeptFields → KeptManifest
kept_from f = record { zone = f.0; identity = f.1.0; key = f.1.1.0; results = f.1.1.1.0; watched = f.1.1.1.1 }

-- how it is spelled
abbrev pub kept_bytes : KeptManifest → Bytes
kept_bytes k = both framed (both framed (both framed (both framed framed))) (kept_fields k)

-- each length fits its eight bytes
abbrev pub KeptFits : KeptManifest → Type 0
KeptFits k = BothFit FitsFrame (BothFit FitsFrame (BothFit FitsFrame (BothFit FitsFrame FitsFrame))) (kept_fields k)

-- reading it
unfoldable pub kept_at : Bytes → Read KeptManifest
kept_at = made_at kept_from (both_at framed_at (both_at framed_at (both_at framed_at (both_at framed_at framed_at))))

pub kept_format : IsFormat kept_at kept_bytes KeptFits
unfolding kept_at
kept_format = made_format kept_from kept_fields _ _ _ (λ x. refl) (λ y. refl) (both_format _ _ _ _ _ _ framed_format (both_format _ _ _ _ _ _ framed_format (both_format _ _ _ _ _ _ framed_format (both_format _ _ _ _ _ _ framed_format framed_format))))
