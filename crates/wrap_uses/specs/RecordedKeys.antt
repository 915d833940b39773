-- Recorded keys, and the pieces that they are of.
use Rattle.std.specs.Prelude.{◌≡◌, Option, None, Some}
use Rattle.rustc_parts.specs.Formed.{AreFormed, digest_digits}
use Rattle.rustc_parts.specs.Material.{material_of}
use Rattle.rustc_parts.specs.Shapes.{shape_of}
use Rattle.rustc_parts.specs.declared.parts.Parts.{Parts}
use Rattle.wrap_uses.specs.declared.recorded_keys.RecordedKey.{RecordedKey}

-- these pieces, whose digests and variables are as a request's are, have the key's bytes and shape
pub record IsKeyOf (key : RecordedKey) (parts : Parts) : Type 0 where
  pub formed : AreFormed digest_digits parts
  pub bytes : material_of parts ≡ key.bytes
  pub shape : shape_of parts ≡ key.shape

-- it's the key of these pieces and of no others, or of none
abbrev pub IsReadAs : RecordedKey → Option Parts → Type 0
IsReadAs key None = (parts : Parts) → IsKeyOf key parts → ⊥
IsReadAs key (Some parts) = IsKeyOf key parts × ((other : Parts) → IsKeyOf key other → other ≡ parts)
