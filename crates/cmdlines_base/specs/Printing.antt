-- How arguments are written as words again.
use Rattle.std.specs.Prelude.{ℕ, Bool, true, false, ◌==◌, List, [], ◌∷◌, ◌++◌, Option, None, Some, if◌then◌else◌, length}
use Rattle.cmdlines_base.specs.declared.argument.ArgDisposition.{ArgDisposition}
use Rattle.cmdlines_base.specs.declared.argument.ArgDisposition.TheVariants.{Separated, CanBeConcatenated, CanBeSeparated, Concatenated}
use Rattle.cmdlines_base.specs.declared.argument.NormalizedDisposition.{NormalizedDisposition}
use Rattle.cmdlines_base.specs.declared.argument.NormalizedDisposition.TheVariants as wanted
use Rattle.std.specs.List.{flat_map}
use Rattle.std.specs.Option.{option_map_or}
use Rattle.base_files.specs.Bytes.{Bytes}
use Rattle.cmdlines_base.specs.Table.{Entry, longest_fit}
use Rattle.cmdlines_base.specs.Reading.{Item, raw, unknown, flag, valued, after_dashes}

-- a value after its flag in one word; an empty one drops the delimiter
abbrev pub joined : Bytes → Option ℕ → Bytes → Bytes
joined name d [] = name
joined name None (b ∷ bs) = name ++ b ∷ bs
joined name (Some d) (b ∷ bs) = name ++ d ∷ b ∷ bs

abbrev pub printed_as : Bytes → Bytes → ArgDisposition → List (Bytes)
printed_as name value Separated = name ∷ value ∷ []
printed_as name value (CanBeConcatenated d) = name ∷ value ∷ []
printed_as name value (CanBeSeparated d) = joined name d value ∷ []
printed_as name value (Concatenated d) = joined name d value ∷ []

abbrev pub printed : {K : Type 0} → Item K → List (Bytes)
printed (raw w) = w ∷ []
printed (unknown w) = w ∷ []
printed (flag f k) = f ∷ []
printed (valued f k v d) = printed_as f v d
printed (after_dashes w) = w ∷ []

-- A value that may be joined or separate becomes the one that is wanted; any other stays.
abbrev pub normalized_disposition : NormalizedDisposition → ArgDisposition → ArgDisposition
normalized_disposition wanted Separated = Separated
normalized_disposition wanted (Concatenated d) = Concatenated d
normalized_disposition wanted.Separated (CanBeConcatenated d) = Separated
normalized_disposition wanted.Separated (CanBeSeparated d) = Separated
normalized_disposition wanted.Concatenated (CanBeConcatenated d) = Concatenated d
normalized_disposition wanted.Concatenated (CanBeSeparated d) = Concatenated d

-- It is wanted joined where the flag has two bytes, else apart.
abbrev pub wanted_after : Bytes → NormalizedDisposition
wanted_after name = if length name == 2 then wanted.Concatenated else wanted.Separated

abbrev pub normal_disposition : Bytes → ArgDisposition → ArgDisposition
normal_disposition name d = normalized_disposition (wanted_after name) d

abbrev pub normal : {K : Type 0} → Item K → Item K
normal (raw w) = raw w
normal (unknown w) = unknown w
normal (flag f k) = flag f k
normal (valued f k v d) = valued f k v (normal_disposition f d)
normal (after_dashes w) = after_dashes w

-- the words of items, as they are written again
abbrev pub words_of : {K : Type 0} → List (Item K) → List Bytes
words_of items = flat_map (λ a. printed (normal a)) items

-- whether a value may be joined or separate
abbrev pub either_way : ArgDisposition → Bool
either_way Separated = false
either_way (CanBeConcatenated d) = true
either_way (CanBeSeparated d) = true
either_way (Concatenated d) = false

abbrev pub is_j : {K : Type 0} → Entry K → Bool
is_j e = option_map_or either_way e.takes false

-- an option whose value may be joined or separate was read with an empty value
abbrev pub is_empty_j : {K : Type 0} → List (Entry K) → Item K → Bool
is_empty_j table (raw w) = false
is_empty_j table (unknown w) = false
is_empty_j table (flag f k) = false
is_empty_j table (valued f k [] d) = option_map_or is_j (longest_fit table f) false
is_empty_j table (valued f k (b ∷ bs) d) = false
is_empty_j table (after_dashes w) = false
