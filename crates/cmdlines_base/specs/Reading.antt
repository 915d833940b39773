-- How a table cuts words into arguments.
use Rattle.std.specs.Prelude.{◌≡◌, Bool, true, false, ◌&&◌, ◌==◌, codes, map, List, [], ◌∷◌, ◌++◌, Option, None, Some, if◌then◌else◌, unwrap_or, ℕ}
use Rattle.std.specs.Str.{bytes_eq}
use Rattle.base_files.specs.Bytes.{Bytes}
use Rattle.cmdlines_base.specs.declared.argument.ArgDisposition.{ArgDisposition}
use Rattle.cmdlines_base.specs.declared.argument.ArgDisposition.TheVariants.{Separated, CanBeConcatenated, CanBeSeparated, Concatenated}
use Rattle.cmdlines_base.specs.Table.{Entry, after, longest_fit}

-- an argument as it is in the words: a loose word, a word that looks like a flag and is in no table, a flag, a flag with its value, or a word after the double dashes that end the options
pub data Item (K : Type 0) : Type 0 where
  raw : Bytes → Item K
  unknown : Bytes → Item K
  flag : Bytes → K → Item K
  valued : Bytes → K → Bytes → ArgDisposition → Item K
  after_dashes : Bytes → Item K

-- What a word makes by itself: an item, or a flag whose value is the next word, or the end of the options.
pub data Start (K : Type 0) : Type 0 where
  whole : Item K → Start K
  awaits : Bytes → K → ArgDisposition → Start K
  ends : Start K

-- a word that nothing fits: 45 is '-'
abbrev pub loose : {K : Type 0} → Bytes → Item K
loose [] = raw []
loose (b ∷ bs) = if b == 45 then unknown (b ∷ bs) else raw (b ∷ bs)

-- the value in what comes after the flag
abbrev pub value_in : Option ℕ → Bytes → Bytes
value_in None rest = rest
value_in (Some d) [] = []
value_in (Some d) (b ∷ rest) = rest

-- a flag whose value may be joined or separate: separate where nothing comes after the flag
abbrev pub start_either : {K : Type 0} → Bytes → K → Option ℕ → Bytes → Start K
start_either f k d [] = awaits f k (CanBeConcatenated d)
start_either f k d (b ∷ bs) = whole (valued f k (value_in d (b ∷ bs)) (CanBeSeparated d))

-- what a word makes by its entry and by what comes after the flag
abbrev pub start_as : {K : Type 0} → Bytes → K → Option ArgDisposition → Bytes → Start K
start_as f k None rest = whole (flag f k)
start_as f k (Some Separated) rest = awaits f k Separated
start_as f k (Some (Concatenated d)) rest = whole (valued f k (value_in d rest) (Concatenated d))
start_as f k (Some (CanBeConcatenated d)) rest = start_either f k d rest
start_as f k (Some (CanBeSeparated d)) rest = start_either f k d rest

abbrev pub first_by : {K : Type 0} → Option (Entry K) → Bytes → Start K
first_by None word = whole (loose word)
first_by (Some e) word = start_as e.flag e.kind e.takes (unwrap_or (after e.flag word) [])

-- the word begins with `@` (64)
abbrev pub begins_with_at : Bytes → Bool
begins_with_at [] = false
begins_with_at (b ∷ bs) = b == 64

abbrev pub is_double_dash : Bytes → Bool
is_double_dash word = bytes_eq word (codes "--")

-- What a word makes by its entry in the table; where double dashes end the options, they do that.
abbrev pub first_word : {K : Type 0} → Bool → List (Entry K) → Bytes → Start K
first_word dashes table word = if dashes && is_double_dash word then ends else first_by (longest_fit table word) word

-- the items, and whether the words end where a value should come
pub record Reading (K : Type 0) : Type 0 where
  pub items : List (Item K)
  pub cut_short : Bool

abbrev pub nothing : {K : Type 0} → Reading K
nothing = record { items = []; cut_short = false }

abbrev pub before : {K : Type 0} → Item K → Reading K → Reading K
before a r = record { items = a ∷ r.items; cut_short = r.cut_short }

-- A flag that awaits a value gets none: where the value may be joined without a delimiter it is empty.
abbrev pub unfinished : {K : Type 0} → Bytes → K → ArgDisposition → Reading K
unfinished f k (CanBeConcatenated None) = before (valued f k [] (Concatenated None)) nothing
unfinished f k (CanBeConcatenated (Some d)) = record { items = []; cut_short = true }
unfinished f k Separated = record { items = []; cut_short = true }
unfinished f k (CanBeSeparated d) = record { items = []; cut_short = true }
unfinished f k (Concatenated d) = record { items = []; cut_short = true }

-- words that all come after double dashes
abbrev pub all_after : {K : Type 0} → List Bytes → Reading K
all_after words = record { items = map after_dashes words; cut_short = false }

abbrev pub is_after : {K : Type 0} → Item K → Bool
is_after (raw w) = false
is_after (unknown w) = false
is_after (flag f k) = false
is_after (valued f k w d) = false
is_after (after_dashes w) = true

-- The reading of words, rule by rule: each word is an item by itself, or a flag that takes the next word for its value, or a flag at the end that lacks one, or the double dashes that end the options, and all words after them.
pub data Reads {K : Type 0} (dashes : Bool) (table : List (Entry K)) : List Bytes → Reading K → Type 0 where
  at_end : Reads dashes table [] nothing
  alone : {word : Bytes} {words : List Bytes} {item : Item K} {r : Reading K} → first_word dashes table word ≡ whole item → Reads dashes table words r → Reads dashes table (word ∷ words) (before item r)
  with_value : {word value : Bytes} {words : List Bytes} {f : Bytes} {k : K} {d : ArgDisposition} {r : Reading K} → first_word dashes table word ≡ awaits f k d → Reads dashes table words r → Reads dashes table (word ∷ value ∷ words) (before (valued f k value d) r)
  lacking : {word : Bytes} {f : Bytes} {k : K} {d : ArgDisposition} → first_word dashes table word ≡ awaits f k d → Reads dashes table (word ∷ []) (unfinished f k d)
  options_end : {word : Bytes} {words : List Bytes} → first_word dashes table word ≡ ends → Reads dashes table (word ∷ words) (all_after words)

-- The same as a function: the reading from a first word on, given those from the word after it and from the one after that.
abbrev pub from_last : {K : Type 0} → Start K → Reading K
from_last (whole a) = before a nothing
from_last (awaits f k d) = unfinished f k d
from_last ends = nothing

abbrev pub from_first : {K : Type 0} → Start K → Bytes → List Bytes → Reading K → Reading K → Reading K
from_first (whole a) next words after_one after_two = before a after_one
from_first (awaits f k d) next words after_one after_two = before (valued f k next d) after_two
from_first ends next words after_one after_two = all_after (next ∷ words)

abbrev pub reading : {K : Type 0} → Bool → List (Entry K) → List Bytes → Reading K
reading dashes table [] = nothing
reading dashes table (word ∷ []) = from_last (first_word dashes table word)
reading dashes table (word ∷ next ∷ words) = from_first (first_word dashes table word) next words (reading dashes table (next ∷ words)) (reading dashes table words)

-- a reading with these items before it
abbrev pub all_before : {K : Type 0} → List (Item K) → Reading K → Reading K
all_before so_far r = record { items = so_far ++ r.items; cut_short = r.cut_short }
