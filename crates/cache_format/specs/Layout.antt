-- The bytes of an entry.
use Rattle.std.specs.Prelude.{List, Option}
use Rattle.base_files.specs.Bytes.{Bytes}
use Rattle.base_formats.specs.Reading.{Read, both_at, counted_at, framed_at, made_at, optional_at}
use Rattle.base_formats.specs.Spelling.{BothFit, CountFits, FitsFrame, IfFits, both, counted, framed, optional}
use Rattle.ckeys_records.specs.Formats.{NameFits, ShapeFits, name_at, name_bytes, shape_at, shape_bytes}
use Rattle.ckeys_records.specs.declared.output_name.OutputName.{OutputName}
use Rattle.ckeys_records.specs.declared.shape.CShape.{CShape}
use Rattle.cache_format.specs.declared.kept_result.KeptResult.{KeptResult}
use Rattle.cache_format.specs.declared.kept_result.KeptMessages.{KeptMessages}

-- their fields, in order
abbrev pub MessagesFields : Type 0
MessagesFields = Bytes × (Bytes × (Bytes × (Option Bytes × (Option Bytes × List (Bytes × Bytes)))))

abbrev pub messages_fields : KeptMessages → MessagesFields
messages_fields m = (m.preprocessor, (m.printed, (m.errors, (m.dependencies, (m.sources, m.side_files)))))

abbrev pub messages_from : MessagesFields → KeptMessages
messages_from f = record { preprocessor = f.0; printed = f.1.0; errors = f.1.1.0; dependencies = f.1.1.1.0; sources = f.1.1.1.1.0; side_files = f.1.1.1.1.1 }

abbrev pub EntryFields : Type 0
EntryFields = CShape × (List OutputName × (Bytes × (List (Bytes × Bytes) × KeptMessages)))

abbrev pub entry_fields : KeptResult → EntryFields
entry_fields e = (e.shape, (e.names, (e.digest, (e.outputs, e.messages))))

abbrev pub entry_from : EntryFields → KeptResult
entry_from f = record { shape = f.0; names = f.1.0; digest = f.1.1.0; outputs = f.1.1.1.0; messages = f.1.1.1.1 }

-- how they are spelled
abbrev pub messages_bytes : KeptMessages → Bytes
messages_bytes m = both framed (both framed (both framed (both (optional framed) (both (optional framed) (counted (both framed framed)))))) (messages_fields m)

abbrev pub contents_bytes : KeptResult → Bytes
contents_bytes e = both shape_bytes (both (counted name_bytes) (both framed (both (counted (both framed framed)) messages_bytes))) (entry_fields e)

-- each length, count and number fits its eight bytes
abbrev pub MessagesFit : KeptMessages → Type 0
MessagesFit m = BothFit FitsFrame (BothFit FitsFrame (BothFit FitsFrame (BothFit (IfFits FitsFrame) (BothFit (IfFits FitsFrame) (CountFits (BothFit FitsFrame FitsFrame)))))) (messages_fields m)

abbrev pub EntryFits : KeptResult → Type 0
EntryFits e = BothFit ShapeFits (BothFit (CountFits NameFits) (BothFit FitsFrame (BothFit (CountFits (BothFit FitsFrame FitsFrame)) MessagesFit))) (entry_fields e)

-- reading them
unfoldable pub messages_at : Bytes → Read KeptMessages
messages_at = made_at messages_from (both_at framed_at (both_at framed_at (both_at framed_at (both_at (optional_at framed_at) (both_at (optional_at framed_at) (counted_at (both_at framed_at framed_at)))))))

unfoldable pub contents_at : Bytes → Read KeptResult
contents_at = made_at entry_from (both_at shape_at (both_at (counted_at name_at) (both_at framed_at (both_at (counted_at (both_at framed_at framed_at)) messages_at))))
