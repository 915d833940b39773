-- Where a cutting of words is, and what it does from there.
use Rattle.std.specs.Prelude.{◌≡◌, Bool, true, false, List, [], ◌∷◌, ◌++◌, Option, None, Some, if◌then◌else◌, ◌⊎◌}
use Rattle.base_files.specs.Bytes.{Bytes}
use Rattle.cmdlines_base.specs.Table.{Entry}
use Rattle.cmdlines_base.specs.Reading.{Item, valued, Start, whole, awaits, ends, Reading, is_double_dash, all_after, reading}
use Rattle.cmdlines_base.specs.Printing.{printed}
use Rattle.cmdlines_base.specs.declared.argument.ArgDisposition.TheVariants.{Separated, CanBeConcatenated, CanBeSeparated, Concatenated}
use Rattle.cmdlines_base.specs.declared.cutting.ArgsIter.{ArgsIter}
use Rattle.cmdlines_base.specs.declared.cutting.DoubleDashes.{DoubleDashes}
use Rattle.cmdlines_base.specs.declared.cutting.DoubleDashes.TheVariants.{Ordinary, Awaited, Seen}

-- the words that are left, and what double dashes are there
pub record Place : Type 0 where
  pub words : List Bytes
  pub dashes : DoubleDashes

abbrev pub place_of : {T S : Type 0} → ArgsIter T S → Place
place_of it = record { words = it.words.now; dashes = it.double_dashes }

-- the table by which they are cut
abbrev pub table_in : {T S : Type 0} → ArgsIter T S → S
table_in it = it.table.now

-- the end of the options was passed
abbrev pub is_seen : DoubleDashes → Bool
is_seen Ordinary = false
is_seen Awaited = false
is_seen Seen = true

-- the reading of the words that are left
abbrev pub reading_by : {K : Type 0} → List (Entry K) → DoubleDashes → List Bytes → Reading K
reading_by table Ordinary words = reading false table words
reading_by table Awaited words = reading true table words
reading_by table Seen words = all_after words

abbrev pub reading_at : {K : Type 0} → List (Entry K) → Place → Reading K
reading_at table place = reading_by table place.dashes place.words

-- the double dashes that end the options are consumed, where they come next
abbrev pub past : DoubleDashes → List Bytes → Place
past Ordinary words = record { words = words; dashes = Ordinary }
past Seen words = record { words = words; dashes = Seen }
past Awaited [] = record { words = []; dashes = Awaited }
past Awaited (word ∷ words) = if is_double_dash word then record { words = words; dashes = Seen } else record { words = word ∷ words; dashes = Awaited }

abbrev pub past_dashes : Place → Place
past_dashes place = past place.dashes place.words

-- the words of an option whose delimiter has nothing after it
abbrev pub bare_words : {K : Type 0} → Item K → Option (List Bytes)
bare_words (valued f k [] (CanBeSeparated (Some d))) = Some ((f ++ d ∷ []) ∷ [])
bare_words (valued f k [] (Concatenated (Some d))) = Some ((f ++ d ∷ []) ∷ [])
bare_words _ = None

-- The words are those that print the item, but for a delimiter with nothing after it, which isn't printed.
abbrev pub IsWrittenAs : {K : Type 0} → Item K → List Bytes → Type 0
IsWrittenAs item words = (words ≡ printed item) ⊎ (Some words ≡ bare_words item)

-- the item that a start and the words after its word make, and the words that are left: None where a value is missing
abbrev pub taken : {K : Type 0} → Start K → List Bytes → Option (Item K × List Bytes)
taken (whole a) rest = Some (a, rest)
taken (awaits f k d) (value ∷ rest) = Some (valued f k value d, rest)
taken (awaits f k (CanBeConcatenated None)) [] = Some (valued f k [] (Concatenated None), [])
taken (awaits f k (CanBeConcatenated (Some d))) [] = None
taken (awaits f k Separated) [] = None
taken (awaits f k (CanBeSeparated d)) [] = None
taken (awaits f k (Concatenated d)) [] = None
taken ends rest = None
