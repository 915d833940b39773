-- Arguments with values of a type, and the items that they are of.
use Rattle.std.specs.Prelude.{◌≡◌, Bool, true, List, [], ◌++◌, Option, None, Some, Result, Ok, Err}
use Rattle.base_files.specs.Bytes.{Bytes}
use Rattle.cmdlines_base.specs.Refusal.{Refusal, IsErrorOf}
use Rattle.cmdlines_base.specs.Table.{Entry}
use Rattle.cmdlines_base.specs.Reading.{Item, raw, unknown, flag, valued, after_dashes, is_after, Start, whole, awaits, ends, Reading, nothing, before}
use Rattle.cmdlines_base.specs.Cutting.{Place, is_seen, taken, reading_at, past_dashes, IsWrittenAs}
use Rattle.cmdlines_base.specs.declared.argument.Argument.{Argument}
use Rattle.cmdlines_base.specs.declared.argument.Argument.TheVariants as arguments
use Rattle.cmdlines_base.specs.declared.argument_error.ArgParseError.{ArgParseError}
use Rattle.cmdlines_base.specs.declared.argument_error.ArgParseError.TheVariants.{UnexpectedEndOfArgs, InvalidUnicode, Other, Memory}
use Rattle.cmdlines_base.specs.declared.cutting.First.{First}
use Rattle.cmdlines_base.specs.declared.cutting.First.TheVariants as firsts

-- what a type of values makes of a flag and of a word, and why it refuses a word, if it does
pub record Values (T K : Type 0) : Type 1 where
  pub flag_value : K → T → Type 0
  pub word_value : K → Bytes → T → Type 0
  pub refusal : K → Bytes → Option Refusal

abbrev pub values_by : {T K : Type 0} → (K → T → Type 0) → (K → Bytes → T → Type 0) → (K → Bytes → Option Refusal) → Values T K
values_by flag_value word_value refusal = record { flag_value = flag_value; word_value = word_value; refusal = refusal }

-- whether the item has a kind of value that prints what it reads, or none
abbrev pub is_given_back : {K : Type 0} → (K → Bool) → Item K → Bool
is_given_back gives_back (valued f k w d) = gives_back k
is_given_back gives_back _ = true

-- the word that contains the item's value
abbrev pub value_word : {K : Type 0} → Item K → Bytes
value_word (valued f k w d) = w
value_word _ = []

module _ {T K : Type 0} (values : Values T K) where
  -- the argument is that item, with its value
  abbrev pub IsOf : Item K → Argument T → Type 0
  IsOf (raw w) (arguments.Raw v) = v ≡ w
  IsOf (unknown w) (arguments.UnknownFlag v) = v ≡ w
  IsOf (flag f k) (arguments.Flag g t) = (g.now ≡ f) × values.flag_value k t
  IsOf (after_dashes w) (arguments.Raw v) = v ≡ w
  IsOf (valued f k w d) (arguments.WithValue g t e) = (g.now ≡ f) × values.word_value k w t × (e ≡ d)
  IsOf _ _ = ⊥

  -- why the item's value is refused, if it is
  abbrev pub refusal_of : Item K → Option Refusal
  refusal_of (raw w) = None
  refusal_of (unknown w) = None
  refusal_of (flag f k) = None
  refusal_of (valued f k w d) = values.refusal k w
  refusal_of (after_dashes w) = None

  -- the error says why the item has no value
  abbrev pub IsErrorOn : Item K → ArgParseError → Type 0
  IsErrorOn item error = IsErrorOf (refusal_of item) (value_word item) error

  -- what a first word makes, with its value
  abbrev pub IsFirst : Start K → First T K → Type 0
  IsFirst (whole a) (firsts.Whole argument) = IsOf a argument × (refusal_of a ≡ None)
  IsFirst (awaits f k d) (firsts.Awaits g l e) = (g.now ≡ f) × (l ≡ k) × (e ≡ d)
  IsFirst _ _ = ⊥

  -- the error says why it makes no item with a value
  abbrev pub IsRefused : Start K → ArgParseError → Type 0
  IsRefused (whole a) error = IsErrorOn a error
  IsRefused (awaits f k d) error = IsErrorOf None [] error
  IsRefused ends error = IsErrorOf None [] error

  -- What a start and the words after its word make: an argument with its value, and the words that are left.
  pub record Takes (start : Start K) (rest : List Bytes) (argument : Argument T) (left : List Bytes) : Type 0 where
    pub item : Item K
    pub takes : taken start rest ≡ Some (item, left)
    pub is : IsOf item argument
    pub accepted : refusal_of item ≡ None

  -- the item that they make has a value that is refused with this error
  pub record TakesRefused (start : Start K) (rest : List Bytes) (error : ArgParseError) : Type 0 where
    pub item : Item K
    pub left : List Bytes
    pub takes : taken start rest ≡ Some (item, left)
    pub refused : IsErrorOn item error

  -- why they make no argument
  abbrev pub FailsToTake : Start K → List Bytes → ArgParseError → Type 0
  FailsToTake start rest UnexpectedEndOfArgs = taken start rest ≡ None
  FailsToTake start rest Memory = Unit {0}
  FailsToTake start rest (InvalidUnicode word) = TakesRefused start rest (InvalidUnicode word)
  FailsToTake start rest (Other reason) = TakesRefused start rest (Other reason)

  -- One argument is cut: it is the first item of the reading of what was left, and some words are consumed for it.
  pub record Cuts (table : List (Entry K)) (old : Place) (argument : Argument T) (new : Place) : Type 0 where
    pub item : Item K
    pub consumed : List Bytes
    pub reads : reading_at table old ≡ before item (reading_at table new)
    pub words : (past_dashes old).words ≡ consumed ++ new.words
    pub dashes : new.dashes ≡ (past_dashes old).dashes
    pub written : IsWrittenAs item consumed
    pub after : is_after item ≡ is_seen new.dashes
    pub is : IsOf item argument
    pub accepted : refusal_of item ≡ None

  -- the first item of the reading has a value that is refused with this error
  pub record CutsRefused (table : List (Entry K)) (old : Place) (error : ArgParseError) : Type 0 where
    pub item : Item K
    pub rest : Reading K
    pub reads : reading_at table old ≡ before item rest
    pub refused : IsErrorOn item error

  -- why no argument is cut
  abbrev pub FailsToCut : List (Entry K) → Place → ArgParseError → Type 0
  FailsToCut table old UnexpectedEndOfArgs = reading_at table old ≡ record { items = []; cut_short = true }
  FailsToCut table old Memory = Unit {0}
  FailsToCut table old (InvalidUnicode word) = CutsRefused table old (InvalidUnicode word)
  FailsToCut table old (Other reason) = CutsRefused table old (Other reason)

  -- no words are left after double dashes that were there
  abbrev pub IsAtEnd : Place → Place → Type 0
  IsAtEnd old new = (new.words ≡ []) × (new.dashes ≡ (past_dashes old).dashes)

  -- What one call of `next` does: it gives the first argument of the words and leaves the rest. At the end of the words, and after an error, nothing is left.
  abbrev pub Steps : List (Entry K) → Place → Option (Result (Argument T) ArgParseError) → Place → Type 0
  Steps table old None new = (reading_at table old ≡ nothing) × IsAtEnd old new
  Steps table old (Some (Ok argument)) new = Cuts table old argument new
  Steps table old (Some (Err error)) new = FailsToCut table old error × IsAtEnd old new
