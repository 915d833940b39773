-- The key of a record, its shape, and which strings are hashed for it.
use Rattle.std.specs.Prelude.{◌≡◌, ◌⊎◌}
use Rattle.std.specs.List.{Contains}
use Rattle.base_files.specs.Bytes.{Bytes}
use Rattle.ckeys_base.specs.Hex.{hex_of}
use Rattle.ckeys_records.specs.Records.{CRecord, parts_of}
use Rattle.ckeys_records.specs.Material.{material_of, shape_of}
use Rattle.ckeys_records.specs.declared.shape.CShape.{CShape}

-- what is hashed of a record, last of all
abbrev pub record_material : (Bytes → Bytes) → CRecord → Bytes
record_material digest_of r = material_of (parts_of digest_of r)

-- the key: the digest of that, as text
abbrev pub key_of : (Bytes → Bytes) → CRecord → Bytes
key_of digest_of r = hex_of (digest_of (record_material digest_of r))

abbrev pub record_shape : (Bytes → Bytes) → CRecord → CShape
record_shape digest_of r = shape_of (parts_of digest_of r)

-- the strings that are hashed for a record: the contents of its extra files, and its material
abbrev pub IsHashedFor : (Bytes → Bytes) → CRecord → Bytes → Type 0
IsHashedFor digest_of r bytes = Contains r.extra_contents bytes ⊎ (bytes ≡ record_material digest_of r)

-- Distinct digests: two of these strings with one digest are equal.
abbrev pub Distinct : (Bytes → Bytes) → (Bytes → Type 0) → Type 0
Distinct digest_of IsHashed = (one other : Bytes) → IsHashed one → IsHashed other → digest_of one ≡ digest_of other → one ≡ other

-- distinct digests of what is hashed for two records
abbrev pub AreDistinct : (Bytes → Bytes) → CRecord → CRecord → Type 0
AreDistinct digest_of one other = Distinct digest_of (λ bytes. IsHashedFor digest_of one bytes ⊎ IsHashedFor digest_of other bytes)
