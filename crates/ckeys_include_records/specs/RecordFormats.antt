-- What is read of includes and results was written, and what was written is read.
use Rattle.std.proofs.Common.{refl}
use Rattle.base_formats.specs.FieldFormats.{both_format, counted_format, framed_format, made_format, number_format, optional_format, signed_format, text_format}
use Rattle.base_formats.specs.Formats.{IsFormat}
use Rattle.ckeys_include_records.specs.Layout.{IncludeFits, ResultFits, include_at, include_bytes, include_fields, include_from, result_at, result_bytes, result_fields, result_from}

pub include_format : IsFormat include_at include_bytes IncludeFits
unfolding include_at
include_format =
    let moments = both_format _ _ _ _ _ _ (optional_format _ _ _ signed_format) (optional_format _ _ _ signed_format) in
    let fields = both_format _ _ _ _ _ _ framed_format (both_format _ _ _ _ _ _ number_format (both_format _ _ _ _ _ _ text_format moments)) in
    made_format include_from include_fields _ _ _ (λ x. refl) (λ y. refl) fields

pub result_format : IsFormat result_at result_bytes ResultFits
unfolding result_at
result_format =
    made_format result_from result_fields _ _ _ (λ x. refl) (λ y. refl) (both_format _ _ _ _ _ _ text_format (counted_format _ _ _ include_format))
