-- The law of a format: what is read is what was written, and nothing else is read.
use Rattle.std.specs.Prelude.{◌≡◌, ℕ, ◌<◌, slice_index, ◌++◌, Option, Some, IfSome}
use Rattle.base_files.specs.Bytes.{Bytes}
use Rattle.base_formats.specs.Reading.{Read}

-- each element is a byte
abbrev pub IsBytes : Bytes → Type 0
IsBytes bytes = (i : ℕ) → slice_index bytes i < 256

-- what was taken from the front: its spelling, and what is left
pub record Takes (bytes spelled rest : Bytes) : Type 0 where
  pub parts : bytes ≡ spelled ++ rest
  pub rest_is : IsBytes rest

-- how a field is read, how it is spelled, and which values fit it
pub record IsFormat {X : Type 0} (reads : Bytes → Read X) (spells : X → Bytes) (Fits : X → Type 0) : Type 0 where
  -- what is read fits, and is spelled so
  pub takes : (bytes : Bytes) (x : X × Bytes) → IsBytes bytes → reads bytes ≡ Some x → Takes bytes (spells x.0) x.1 × Fits x.0
  -- what fits is read from its spelling, whatever follows
  pub again : (x : X) (rest : Bytes) → Fits x → reads (spells x ++ rest) ≡ Some (x, rest)

-- What was found is the one value of which that holds; where none was found, it holds of no value.
pub record IsOnly {X : Type 0} (Holds : X → Type 0) (result : Option X) : Type 0 where
  pub found : IfSome result Holds
  pub only : (x : X) → Holds x → result ≡ Some x
