-- What a key of a request to rustc represents, and the pieces that are hashed for it.
use Rattle.std.specs.Prelude.{◌≡◌, ◌⊎◌, List, map, Option}
use Rattle.std.specs.List.{AllByRecursion, Contains}
use Rattle.std.specs.Option.{option_map, option_to_list}
use Rattle.base_files.specs.Bytes.{Bytes}
use Rattle.base_formats.specs.Spelling.{FitsFrame}
use Rattle.ckeys_base.specs.Hex.{hex_of}
use Rattle.ckeys_records.specs.Keys.{Distinct}
use Rattle.ckeys_records.specs.Meaning.{Variables}
use Rattle.rustc_parts.specs.Formed.{IsDigest, digest_digits}
use Rattle.rustc_parts.specs.Material.{material_of}
use Rattle.rustc_parts.specs.Shapes.{shape_of}
use Rattle.rustc_parts.specs.declared.parts.EnvDep.{EnvDep}
use Rattle.rustc_parts.specs.declared.parts.Parts.{Parts}
use Rattle.rustc_parts.specs.declared.parts.RShape.{RShape}

-- The record: the toolchain's digests, what the compiler says of its version, the words that count, the contents of sources and of named crates, the digests of static libraries, the contents of the target's file and of the profile, the variables that the sources name, those of the call that count, and the directory.
pub record RustRecord : Type 0 where
  pub toolchain : List Bytes
  pub version : Bytes
  pub words : List Bytes
  pub sources : List Bytes
  pub externs : List Bytes
  pub archives : List Bytes
  pub target : Option Bytes
  pub profile : Option Bytes
  pub env_deps : List EnvDep
  pub variables : Variables
  pub dir : Bytes

-- contents as the text of their digest
abbrev pub digest_text : (Bytes → Bytes) → Bytes → Bytes
digest_text digest_of contents = hex_of (digest_of contents)

-- the pieces of a record, under a digest
abbrev pub parts_of : (Bytes → Bytes) → RustRecord → Parts
parts_of digest_of r = record {
  toolchain = r.toolchain;
  version = r.version;
  words = r.words;
  sources = map (digest_text digest_of) r.sources;
  externs = map (digest_text digest_of) r.externs;
  archives = r.archives;
  target = option_map (digest_text digest_of) r.target;
  profile = option_map (digest_text digest_of) r.profile;
  env_deps = r.env_deps;
  variables = r.variables;
  dir = r.dir;
}

-- what is hashed of a record, last of all; its digest as text is the key
abbrev pub record_material : (Bytes → Bytes) → RustRecord → Bytes
record_material digest_of r = material_of (parts_of digest_of r)

abbrev pub key_of : (Bytes → Bytes) → RustRecord → Bytes
key_of digest_of r = digest_text digest_of (record_material digest_of r)

abbrev pub record_shape : (Bytes → Bytes) → RustRecord → RShape
record_shape digest_of r = shape_of (parts_of digest_of r)

-- A record is determined by its key: the digests that were handed in are digits, and what is hashed can be counted in 64 bits.
pub record IsTold (digest_of : Bytes → Bytes) (r : RustRecord) : Type 0 where
  pub toolchain : AllByRecursion (IsDigest digest_digits) r.toolchain
  pub archives : AllByRecursion (IsDigest digest_digits) r.archives
  pub fits : FitsFrame (record_material digest_of r)

-- the strings that are hashed for a record: the contents of its sources, of the crates that it names, of its target's file and of its profile, and its material
abbrev pub IsHashedFor : (Bytes → Bytes) → RustRecord → Bytes → Type 0
IsHashedFor digest_of r bytes =
    Contains r.sources bytes ⊎ (Contains r.externs bytes ⊎ (Contains (option_to_list r.target) bytes ⊎ (Contains (option_to_list r.profile) bytes ⊎ (bytes ≡ record_material digest_of r))))

-- distinct digests of what is hashed for two records
abbrev pub AreDistinct : (Bytes → Bytes) → RustRecord → RustRecord → Type 0
AreDistinct digest_of one other = Distinct digest_of (λ bytes. IsHashedFor digest_of one bytes ⊎ IsHashedFor digest_of other bytes)
