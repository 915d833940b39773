-- The pieces of a key, read from the left of its bytes by what these don't determine.
use Rattle.std.specs.Prelude.{ℕ, Bool, true, false, ◌==◌, ◌-◌, List, [], ◌∷◌, length, take, slice_index, Option, None, Some, if◌then◌else◌}
use Rattle.std.specs.List.{list_all}
use Rattle.std.specs.Str.{byte}
use Rattle.base_files.specs.Bytes.{Bytes}
use Rattle.base_formats.specs.Reading.{Read, ◌>>=◌, both_at, framed_at, taken_at, times_at}
use Rattle.rustc_parts.specs.Formed.{digest_digits, is_digit}
use Rattle.rustc_parts.specs.declared.parts.EnvDep.{EnvDep}
use Rattle.rustc_parts.specs.declared.parts.Parts.{Parts}
use Rattle.rustc_parts.specs.declared.parts.RShape.{RShape}

-- a field for each of these, in a row
unfoldable pub each_at : {A X : Type 0} → (A → Bytes → Read X) → List A → Bytes → Read (List X)
each_at one [] bytes = Some ([], bytes)
each_at one (a ∷ others) bytes = do
  first ← one a bytes
  rest ← each_at one others first.1
  Some (first.0 ∷ rest.0, rest.1)

-- what comes after this byte
unfoldable pub byte_at : ℕ → Bytes → Option Bytes
byte_at b [] = None
byte_at b (first ∷ rest) = if first == b then Some rest else None

-- this byte, and the field after it
unfoldable pub after_at : {X : Type 0} → ℕ → (Bytes → Read X) → Bytes → Read X
after_at b one bytes = do
  rest ← byte_at b bytes
  one rest

-- so many digits
unfoldable pub digest_at : ℕ → Bytes → Read Bytes
digest_at width bytes = do
  digest ← taken_at width bytes
  if list_all is_digit digest.0 then Some digest else None

-- a digest where there is one
unfoldable pub optional_digest_at : ℕ → Bool → Bytes → Read (Option Bytes)
optional_digest_at width false bytes = Some (None, bytes)
optional_digest_at width true bytes = do
  digest ← digest_at width bytes
  Some (Some digest.0, digest.1)

-- words of these lengths, which fill what comes after their joined length
unfoldable pub words_at : List ℕ → Bytes → Read (List Bytes)
words_at lengths bytes = do
  block ← framed_at bytes
  words ← each_at taken_at lengths block.0
  if length words.1 == 0 then Some (words.0, block.1) else None

-- a name, `=`, and a value
unfoldable pub pair_at : Bytes → Read (Bytes × Bytes)
pair_at = both_at framed_at (after_at (byte "=") framed_at)

-- a value that is set, or the empty one that stands for none
abbrev pub valued : Bool → Bytes → Option (Option Bytes)
valued true value = Some (Some value)
valued false [] = Some None
valued false (b ∷ value) = None

unfoldable pub env_dep_at : Bool → Bytes → Read EnvDep
env_dep_at is_set bytes = do
  pair ← pair_at bytes
  value ← valued is_set pair.0.1
  Some (record { name = pair.0.0; value = value }, pair.1)

-- the digests of files: sources, externs, archives, target, and profile
abbrev pub Files : Type 0
Files = List Bytes × (List Bytes × (List Bytes × (Option Bytes × Option Bytes)))

unfoldable pub files_at : ℕ → RShape → Bytes → Read Files
files_at width shape =
    both_at (times_at (digest_at width) shape.sources) (both_at (times_at (digest_at width) shape.externs) (both_at (times_at (digest_at digest_digits) shape.archives) (both_at (optional_digest_at width shape.has_target) (optional_digest_at width shape.has_profile))))

-- the variables that the source names, those of the call, and the directory
abbrev pub Surroundings : Type 0
Surroundings = List EnvDep × (List (Bytes × Bytes) × Bytes)

unfoldable pub surroundings_at : RShape → Bytes → Read Surroundings
surroundings_at shape = both_at (each_at env_dep_at shape.env_deps) (both_at (times_at pair_at shape.variables) framed_at)

-- all pieces but the compiler's version, after the version of this layout
abbrev pub Front : Type 0
Front = List Bytes × (List Bytes × (Files × Surroundings))

unfoldable pub front_at : ℕ → RShape → Bytes → Read Front
front_at width shape =
    after_at (byte "8") (both_at (times_at (digest_at digest_digits) shape.toolchain) (both_at (words_at shape.words) (both_at (files_at width shape) (surroundings_at shape))))

-- all that is left, less a last byte 255
unfoldable pub version_at : Bytes → Option Bytes
version_at bytes =
    if length bytes == 0 then None
    else (if slice_index bytes (length bytes - 1) == 255 then Some (take (length bytes - 1) bytes) else None)

-- the pieces of a front and a version, and the front of some pieces
abbrev pub parts_from : Front → Bytes → Parts
parts_from f version = record {
  toolchain = f.0;
  version = version;
  words = f.1.0;
  sources = f.1.1.0.0;
  externs = f.1.1.0.1.0;
  archives = f.1.1.0.1.1.0;
  target = f.1.1.0.1.1.1.0;
  profile = f.1.1.0.1.1.1.1;
  env_deps = f.1.1.1.0;
  variables = f.1.1.1.1.0;
  dir = f.1.1.1.1.1;
}

abbrev pub front_of : Parts → Front
front_of p = (p.toolchain, (p.words, ((p.sources, (p.externs, (p.archives, (p.target, p.profile)))), (p.env_deps, (p.variables, p.dir)))))

unfoldable pub parts_at : ℕ → RShape → Bytes → Option Parts
parts_at width shape bytes = do
  front ← front_at width shape bytes
  version ← version_at front.1
  Some (parts_from front.0 version)
