-- Values and arguments as texts, by what a transformer of paths answers.
use Rattle.std.specs.Prelude.{◌≡◌, ℕ, false, ◌⊎◌, List, [], ◌∷◌, ◌++◌, Option, None, Some, Result, Ok, Err, String, string_bytes}
use Rattle.std.specs.Borrow.{Bor}
use Rattle.std.specs.Fn.{Mut, CalledAt}
use Rattle.std.specs.Str.{is_utf8}
use Rattle.std.specs.declared.alloc.Global.{Global}
use Rattle.base_files.specs.Bytes.{Bytes}
use Rattle.cmdlines_base.specs.Printing.{joined}
use Rattle.cmdlines_base.specs.Pieces.{Part, bare, apart, after}
use Rattle.cmdlines_base.specs.declared.argument_error.ArgToStringError.{ArgToStringError}
use Rattle.cmdlines_base.specs.declared.argument_error.ArgToStringError.TheVariants.{FailedPathTransform, InvalidUnicode, Memory}

abbrev pub Text : Type 0
Text = String Global

-- a word as text: it has none where it isn't UTF-8
abbrev pub WordText : Bytes → Result Text ArgToStringError → Type 0
WordText word (Ok text) = string_bytes text ≡ word
WordText word (Err (InvalidUnicode bytes)) = (bytes ≡ word) × (is_utf8 word ≡ false)
WordText word (Err (FailedPathTransform path)) = ⊥
WordText word (Err Memory) = Unit {0}

module _ {F : Type 0} (g : Mut F (Bor Bytes × Unit {0}) (Option Text)) where
  -- a path after what comes before it, as text: the transformer was called once at the path, and gave a text for it or none; when out of memory it may not have been called
  abbrev pub PathText : Bytes → Bytes → F → Result Text ArgToStringError → F → Type 0
  PathText front path f (Ok text) f' = (given : Text) × CalledAt g f path (Some given) f' × (string_bytes text ≡ front ++ string_bytes given)
  PathText front path f (Err (FailedPathTransform failed)) f' = (failed ≡ path) × CalledAt g f path None f'
  PathText front path f (Err (InvalidUnicode bytes)) f' = (given : Text) × CalledAt g f path (Some given) f' × (bytes ≡ front ++ string_bytes given) × (is_utf8 bytes ≡ false)
  PathText front path f (Err Memory) f' = (f' ≡ f) ⊎ ((given : Option Text) × CalledAt g f path given f')

  -- a value as text, which asks the transformer only for a path
  abbrev pub ValueText : Option (Bytes × Bytes) → Bytes → F → Result Text ArgToStringError → F → Type 0
  ValueText None word f r f' = WordText word r × (f' ≡ f)
  ValueText (Some (front, path)) word f r f' = PathText front path f r f'

module _ {F T : Type 0} (g : Mut F (Bor Bytes × Unit {0}) (Option Text)) (word : T → Bytes) (path : T → Option (Bytes × Bytes)) where
  abbrev TextOf : T → F → Result Text ArgToStringError → F → Type 0
  TextOf value f r f' = ValueText g (path value) (word value) f r f'

  -- a flag with its value as text after it; the delimiter is dropped where the text is empty
  abbrev pub JoinedText : Bytes → Option ℕ → T → F → Result Text ArgToStringError → F → Type 0
  JoinedText flag d value f (Ok text) f' = (after : Text) × TextOf value f (Ok after) f' × (string_bytes text ≡ joined flag d (string_bytes after))
  JoinedText flag d value f (Err (FailedPathTransform path)) f' = TextOf value f (Err (FailedPathTransform path)) f'
  JoinedText flag d value f (Err (InvalidUnicode bytes)) f' = TextOf value f (Err (InvalidUnicode bytes)) f' ⊎ ((after : Text) × TextOf value f (Ok after) f' × (bytes ≡ joined flag d (string_bytes after)) × (is_utf8 bytes ≡ false))
  JoinedText flag d value f (Err Memory) f' = (r : Result Text ArgToStringError) × TextOf value f r f'

  -- a part of an argument as text
  abbrev pub PartText : Part T → F → Result Text ArgToStringError → F → Type 0
  PartText (bare w) f r f' = WordText w r × (f' ≡ f)
  PartText (apart value) f r f' = TextOf value f r f'
  PartText (after flag d value) f r f' = JoinedText flag d value f r f'

  -- What one call of `next` does: it gives the text of the first part that is left; after an error nothing is left.
  abbrev pub GivesText : List (Part T) → F → Option (Result Text ArgToStringError) → List (Part T) → F → Type 0
  GivesText old f None new f' = (old ≡ []) × (new ≡ []) × (f' ≡ f)
  GivesText old f (Some (Ok text)) new f' = (part : Part T) × (old ≡ part ∷ new) × PartText part f (Ok text) f'
  GivesText old f (Some (Err error)) new f' = (part : Part T) × (rest : List (Part T)) × (old ≡ part ∷ rest) × PartText part f (Err error) f' × (new ≡ [])
