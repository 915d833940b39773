-- The record of a call, of whichever family, and what its key is made of.
use Rattle.std.specs.Prelude.{◌⊎◌}
use Rattle.base_files.specs.Bytes.{Bytes}
use Rattle.ckeys_records.specs.Keys.{Distinct}
use Rattle.ckeys_records.specs.Keys as c
use Rattle.ckeys_records.specs.Records.{AreTold, CRecord}
use Rattle.rustkeys.specs.Records as rustc
use Rattle.rustkeys.specs.Records.{RustRecord}
use Rattle.wrap_base.specs.declared.store_key.Family.{Family}
use Rattle.wrap_base.specs.declared.store_key.Family.TheVariants as families
use Rattle.wrap_base.specs.declared.store_key.Shape.{Shape}
use Rattle.wrap_base.specs.declared.store_key.Shape.TheVariants as shapes

-- the record of a call: of a C compiler or of rustc
pub data CallRecord : Type 0 where
  of_c : CRecord → CallRecord
  of_rustc : RustRecord → CallRecord

abbrev pub family_of : CallRecord → Family
family_of (of_c r) = families.C
family_of (of_rustc r) = families.Rustc

-- what the hashed bytes don't determine
abbrev pub record_shape : (Bytes → Bytes) → CallRecord → Shape
record_shape digest_of (of_c r) = shapes.C (c.record_shape digest_of r)
record_shape digest_of (of_rustc r) = shapes.Rustc (rustc.record_shape digest_of r)

-- the digest of its material, as text
abbrev pub key_of : (Bytes → Bytes) → CallRecord → Bytes
key_of digest_of (of_c r) = c.key_of digest_of r
key_of digest_of (of_rustc r) = rustc.key_of digest_of r

-- the strings that are hashed for it
abbrev pub IsHashedFor : (Bytes → Bytes) → CallRecord → Bytes → Type 0
IsHashedFor digest_of (of_c r) bytes = c.IsHashedFor digest_of r bytes
IsHashedFor digest_of (of_rustc r) bytes = rustc.IsHashedFor digest_of r bytes

-- distinct digests of what is hashed for two records
abbrev pub AreDistinct : (Bytes → Bytes) → CallRecord → CallRecord → Type 0
AreDistinct digest_of one other = Distinct digest_of (λ bytes. IsHashedFor digest_of one bytes ⊎ IsHashedFor digest_of other bytes)

-- its key determines it: what is hashed can be counted in 64 bits, and digests that were handed in are digits
abbrev pub IsTold : (Bytes → Bytes) → CallRecord → Type 0
IsTold digest_of (of_c r) = AreTold r.words r.variables
IsTold digest_of (of_rustc r) = rustc.IsTold digest_of r
