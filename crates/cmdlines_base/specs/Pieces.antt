-- Arguments with values of a type, as they are written and looked at.
use Rattle.std.specs.Prelude.{ℕ, Bool, true, false, List, [], ◌∷◌, ◌++◌, map, Option, None, Some}
use Rattle.std.specs.Option.{option_to_list}
use Rattle.base_files.specs.Bytes.{Bytes}
use Rattle.cmdlines_base.specs.Printing.{normalized_disposition, either_way, joined}
use Rattle.cmdlines_base.specs.declared.argument.ArgDisposition.{ArgDisposition}
use Rattle.cmdlines_base.specs.declared.argument.ArgDisposition.TheVariants.{Separated, CanBeConcatenated, CanBeSeparated, Concatenated}
use Rattle.cmdlines_base.specs.declared.printing.Piece.{Piece}
use Rattle.cmdlines_base.specs.declared.printing.Piece.TheVariants as pieces
use Rattle.cmdlines_base.specs.declared.printing.Pieces.{Pieces}
use Rattle.cmdlines_base.specs.declared.argument.Argument.{Argument}
use Rattle.cmdlines_base.specs.declared.argument.Argument.TheVariants.{Raw, UnknownFlag, Flag, WithValue}
use Rattle.cmdlines_base.specs.declared.argument.NormalizedDisposition.{NormalizedDisposition}

-- a value that may be joined or separate becomes the one that is wanted; all else stays
abbrev pub normalized : {T : Type 0} → NormalizedDisposition → Argument T → Argument T
normalized wanted (Raw w) = Raw w
normalized wanted (UnknownFlag w) = UnknownFlag w
normalized wanted (Flag f v) = Flag f v
normalized wanted (WithValue f v d) = WithValue f v (normalized_disposition wanted d)

-- whether it's a flag whose value may be joined or separate
abbrev pub stands_either_way : {T : Type 0} → Argument T → Bool
stands_either_way (WithValue f v d) = either_way d
stands_either_way _ = false

-- the word, or the flag alone
abbrev pub leading_word : {T : Type 0} → Argument T → Bytes
leading_word (Raw w) = w
leading_word (UnknownFlag w) = w
leading_word (Flag f v) = f.now
leading_word (WithValue f v d) = f.now

abbrev pub flag_in : {T : Type 0} → Argument T → Option Bytes
flag_in (Raw w) = None
flag_in (UnknownFlag w) = None
flag_in (Flag f v) = Some f.now
flag_in (WithValue f v d) = Some f.now

abbrev pub data_in : {T : Type 0} → Argument T → Option T
data_in (Raw w) = None
data_in (UnknownFlag w) = None
data_in (Flag f v) = Some v
data_in (WithValue f v d) = Some v

-- A part of an argument that is printed as one word: bytes as they are, a value, or a flag with its value after it.
pub data Part (T : Type 0) : Type 0 where
  bare : Bytes → Part T
  apart : T → Part T
  after : Bytes → Option ℕ → T → Part T

-- a flag and its value, apart or joined
abbrev pub parts_as : {T : Type 0} → Bytes → T → ArgDisposition → List (Part T)
parts_as f v Separated = bare f ∷ apart v ∷ []
parts_as f v (CanBeConcatenated d) = bare f ∷ apart v ∷ []
parts_as f v (CanBeSeparated d) = after f d v ∷ []
parts_as f v (Concatenated d) = after f d v ∷ []

abbrev pub parts_of : {T : Type 0} → Argument T → List (Part T)
parts_of (Raw w) = bare w ∷ []
parts_of (UnknownFlag w) = bare w ∷ []
parts_of (Flag f v) = bare f.now ∷ []
parts_of (WithValue f v d) = parts_as f.now v d

-- the word of a part, by the words of values
abbrev pub part_word : {T : Type 0} → (T → Bytes) → Part T → Bytes
part_word word (bare w) = w
part_word word (apart v) = word v
part_word word (after f d v) = joined f d (word v)

-- the words of an argument
abbrev pub argument_words : {T : Type 0} → (T → Bytes) → Argument T → List Bytes
argument_words word a = map (part_word word) (parts_of a)

-- it prints two words: its flag, and its value apart
abbrev pub stands_apart : {T : Type 0} → Argument T → Bool
stands_apart (WithValue f v Separated) = true
stands_apart (WithValue f v (CanBeConcatenated d)) = true
stands_apart _ = false

-- the parts of which a printer has yet to give words
abbrev pub part_of : {T : Type 0} → Piece T → Part T
part_of (pieces.Word w) = bare w.now
part_of (pieces.Value v) = apart v.now
part_of (pieces.Joined f d v) = after f.now d v.now

abbrev pub parts_left : {T : Type 0} → Pieces T → List (Part T)
parts_left p = map part_of (option_to_list p.first ++ option_to_list p.second)
