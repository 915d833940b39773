-- What is read of an entry's fields was written, and what was written is read.
use Rattle.std.proofs.Common.{refl}
use Rattle.base_formats.specs.FieldFormats.{both_format, counted_format, framed_format, made_format, optional_format}
use Rattle.base_formats.specs.Formats.{IsFormat}
use Rattle.ckeys_records.specs.Formats.{name_format, shape_format}
use Rattle.cache_format.specs.Layout.{EntryFits, MessagesFit, contents_at, contents_bytes, entry_fields, entry_from, messages_at, messages_bytes, messages_fields, messages_from}

pub messages_format : IsFormat messages_at messages_bytes MessagesFit
unfolding messages_at
messages_format =
    let side_files = counted_format _ _ _ (both_format _ _ _ _ _ _ framed_format framed_format) in
    let last = both_format _ _ _ _ _ _ (optional_format _ _ _ framed_format) (both_format _ _ _ _ _ _ (optional_format _ _ _ framed_format) side_files) in
    let fields = both_format _ _ _ _ _ _ framed_format (both_format _ _ _ _ _ _ framed_format (both_format _ _ _ _ _ _ framed_format last)) in
    made_format messages_from messages_fields _ _ _ (λ x. refl) (λ y. refl) fields

pub contents_format : IsFormat contents_at contents_bytes EntryFits
unfolding contents_at
contents_format =
    let outputs = counted_format _ _ _ (both_format _ _ _ _ _ _ framed_format framed_format) in
    let last = both_format _ _ _ _ _ _ framed_format (both_format _ _ _ _ _ _ outputs messages_format) in
    let fields = both_format _ _ _ _ _ _ shape_format (both_format _ _ _ _ _ _ (counted_format _ _ _ name_format) last) in
    made_format entry_from entry_fields _ _ _ (λ x. refl) (λ y. refl) fields
