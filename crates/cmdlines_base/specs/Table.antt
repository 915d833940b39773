-- Which entry of a table a word has.
use Rattle.std.specs.Prelude.{◌≡◌, ℕ, ◌≤◌, ◌<◌, Bool, true, false, ◌&&◌, ◌==◌, nat_lt, List, [], ◌∷◌, ◌++◌, length, Option, None, Some, IsTrue, if◌then◌else◌, map, Contains, All, option_and_then}
use Rattle.std.specs.Option.{option_map_or, option_map}
use Rattle.std.specs.Borrow.{Bor}
use Rattle.base_files.specs.Bytes.{Bytes}
use Rattle.std.specs.Ordering.{nat_cmp, is_lt}
use Rattle.std.specs.Cmp.Lexicographic.{slice_cmp}
use Rattle.cmdlines_base.specs.declared.argument.ArgDisposition.{ArgDisposition}
use Rattle.cmdlines_base.specs.declared.argument.ArgDisposition.TheVariants.{Separated, CanBeConcatenated, CanBeSeparated, Concatenated}
use Rattle.cmdlines_base.specs.declared.table.ArgInfo.{ArgInfo}
use Rattle.cmdlines_base.specs.declared.table.ArgInfo.TheVariants.{Flag, TakeArg}

-- an entry, without where its flag lies in memory: what it takes is None for a flag without a value
pub record Entry (K : Type 0) : Type 0 where
  pub flag : Bytes
  pub kind : K
  pub takes : Option ArgDisposition

abbrev pub entry_of : {T K : Type 0} → ArgInfo T K → Entry K
entry_of (Flag f k) = record { flag = f.now; kind = k; takes = None }
entry_of (TakeArg f k d) = record { flag = f.now; kind = k; takes = Some d }

-- the entry that a look-up lends
abbrev pub entry_at : {T K : Type 0} → Option (Bor (ArgInfo T K)) → Option (Entry K)
entry_at r = option_map (λ e. entry_of e.now) r

abbrev pub entries_of : {T K : Type 0} → List (ArgInfo T K) → List (Entry K)
entries_of entries = map entry_of entries

-- what comes after the flag, where the word begins with it
abbrev pub after : Bytes → Bytes → Option (Bytes)
after [] word = Some word
after (b ∷ flag) [] = None
after (b ∷ flag) (c ∷ word) = if b == c then after flag word else None

-- whether a byte may come right after the flag
abbrev pub delimiter_allows : Option ℕ → ℕ → Bool
delimiter_allows None b = true
delimiter_allows (Some d) b = b == d

-- how a value may be joined: None where it may not
abbrev pub joined_by : ArgDisposition → Option (Option ℕ)
joined_by Separated = None
joined_by (CanBeConcatenated d) = Some d
joined_by (CanBeSeparated d) = Some d
joined_by (Concatenated d) = Some d

abbrev pub joins_by : {K : Type 0} → Entry K → Option (Option ℕ)
joins_by e = option_and_then joined_by e.takes

-- whether this may come after the entry's flag in the same word
abbrev pub may_follow : {K : Type 0} → Entry K → Bytes → Bool
may_follow e [] = true
may_follow e (b ∷ bs) = option_map_or (λ d. delimiter_allows d b) (joins_by e) false

-- The word is the flag, or the flag begins the word, the disposition may join, and the delimiter, if any, comes next.
abbrev pub fits : {K : Type 0} → Entry K → Bytes → Bool
fits e word = option_map_or (may_follow e) (after e.flag word) false

-- the entry with the longer flag, and the second where they are as long
abbrev pub longer : {K : Type 0} → Option (Entry K) → Option (Entry K) → Option (Entry K)
longer a None = a
longer None (Some e) = Some e
longer (Some d) (Some e) = if nat_lt (length e.flag) (length d.flag) then Some d else Some e

-- the fitting entry with the longest flag, and the last of those
abbrev pub longest_fit : {K : Type 0} → List (Entry K) → Bytes → Option (Entry K)
longest_fit [] word = None
longest_fit (e ∷ es) word = longer (if fits e word then Some e else None) (longest_fit es word)

-- The same in the words of the subject: the flag and a rest that may follow it are the word.
abbrev pub Fits : {K : Type 0} → Entry K → Bytes → Type 0
Fits e word = (rest : Bytes) × (word ≡ e.flag ++ rest) × IsTrue (may_follow e rest)

-- all entries of tables, in order
abbrev pub all_entries : {K : Type 0} → List (List (Entry K)) → List (Entry K)
all_entries [] = []
all_entries (t ∷ []) = t
all_entries (t ∷ u ∷ us) = t ++ all_entries (u ∷ us)

-- a flag that fits is no longer than that of this entry, and is shorter
abbrev pub NoLonger : {K : Type 0} → Bytes → Entry K → Entry K → Type 0
NoLonger word e other = Fits other word → length other.flag ≤ length e.flag

abbrev pub Shorter : {K : Type 0} → Bytes → Entry K → Entry K → Type 0
Shorter word e other = Fits other word → length other.flag < length e.flag

-- It is in one of the tables and fits, no fitting entry has a longer flag, and none of a later table has one as long.
pub record IsLongestFit {K : Type 0} (tables : List (List (Entry K))) (word : Bytes) (e : Entry K) : Type 0 where
  pub before : List (List (Entry K))
  pub table : List (Entry K)
  pub later : List (List (Entry K))
  pub stands : tables ≡ before ++ table ∷ later
  pub among : Contains table e
  pub fits : Fits e word
  pub longest : All (NoLonger word e) (all_entries tables)
  pub latest : All (Shorter word e) (all_entries later)

abbrev pub IsEntryOf : {K : Type 0} → List (List (Entry K)) → Bytes → Option (Entry K) → Type 0
IsEntryOf tables word None = All (λ e. ¬ Fits e word) (all_entries tables)
IsEntryOf tables word (Some e) = IsLongestFit tables word e

-- Tables: flags rise strictly, and delimiters are ASCII.
abbrev pub is_ascii_delimiter : Option ℕ → Bool
is_ascii_delimiter None = true
is_ascii_delimiter (Some d) = nat_lt d 128

abbrev pub has_ascii : {K : Type 0} → Entry K → Bool
has_ascii e = option_map_or is_ascii_delimiter (joins_by e) true

-- the next flag, if there is one, is above this one
abbrev pub rises_to : {K : Type 0} → Entry K → List (Entry K) → Bool
rises_to e [] = true
rises_to e (n ∷ ns) = is_lt (slice_cmp nat_cmp e.flag n.flag)

abbrev pub is_table : {K : Type 0} → List (Entry K) → Bool
is_table [] = true
is_table (e ∷ es) = has_ascii e && rises_to e es && is_table es
