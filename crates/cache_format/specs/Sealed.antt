-- Values preceded by the version of their layout, with the digest of all of that at their end.
use Rattle.std.specs.Prelude.{ℕ, ◌==◌, ◌++◌, [], ◌∷◌, length, Option, None, Some, if◌then◌else◌}
use Rattle.base_files.specs.Bytes.{Bytes}
use Rattle.base_formats.specs.Reading.{Read, ◌>>=◌}

-- the value whose bytes these are, with nothing after it
unfoldable pub fields_at : {X : Type 0} → (Bytes → Read X) → Bytes → Option X
fields_at reads bytes = do
  x ← reads bytes
  if length x.1 == 0 then Some x.0 else None

-- all of them after that version; there is no value for another version
unfoldable pub whole_at : {X : Type 0} → ℕ → (Bytes → Read X) → Bytes → Option X
whole_at version reads [] = None
whole_at version reads (first ∷ bytes) = if first == version then fields_at reads bytes else None

-- what is sealed: the version and the value
abbrev pub versioned_bytes : {X : Type 0} → ℕ → (X → Bytes) → X → Bytes
versioned_bytes version spells x = version ∷ spells x

-- with the digest of these
abbrev pub sealed_bytes : {X : Type 0} → (Bytes → Bytes) → ℕ → (X → Bytes) → X → Bytes
sealed_bytes digest_of version spells x = versioned_bytes version spells x ++ digest_of (versioned_bytes version spells x)
