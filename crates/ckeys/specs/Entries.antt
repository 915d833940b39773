-- Include records: what they are kept under, and what they say of the calls that made them.
use Rattle.std.specs.Prelude.{◌≡◌, pos, Bool, true, false, ◌&&◌, if◌then◌else◌, List, [], ◌∷◌, map, Option, None, Some}
use Rattle.std.specs.List.{Contains}
use Rattle.std.specs.Ordering.{int_eq}
use Rattle.base_files.specs.Bytes.{Bytes}
use Rattle.base_files.specs.Tree.{contents_at}
use Rattle.ckeys_base.specs.Hex.{hex_of}
use Rattle.ckeys_include_records.specs.Records.{Record}
use Rattle.ckeys_include_records.specs.Surroundings.{are_there, contents_in, second_at}
use Rattle.ckeys_include_records.specs.declared.entry.CachedResult.{CachedResult}
use Rattle.ckeys_include_records.specs.declared.entry.IncludeEntry.{IncludeEntry}
use Rattle.ckeys_include_records.specs.Framing.{paths_of}
use Rattle.ckeys_include_records.specs.Identity.{Identity, IdentityFits, identity_material}
use Rattle.ckeys_include_records.specs.Sights.{Seen, Sights, SightsFit, can_be_told, sight_material, sights_of}
use Rattle.ckeys_include_records.specs.Telling.{entry_key_with}
use Rattle.ckeys_include_records.specs.declared.entry_key.EntryKey.{EntryKey}
use Rattle.ckeys.specs.Calls.{KeyCall, PrintedCall, asks_records, extra_paths, input_path, record_by}
use Rattle.ckeys_records.specs.Meaning.{text_in}
use Rattle.ckeys_records.specs.Folders.{Settings}
use Rattle.ckeys_records.specs.Keys.{Distinct, key_of}
use Rattle.ckeys_records.specs.Meaning.{Made}
use Rattle.ckeys.specs.Surroundings.{SameSurroundings, named_at, place_of, recorded_of}

-- who asks, by a call
unfoldable pub identity_by : KeyCall → Identity
identity_by c = record {
  kind = c.kind;
  executable = c.scene.executable;
  plusplus = c.traits.plusplus;
  version = c.traits.version;
  compiler_digest = c.compiler_digest;
  assembler_digest = c.traits.assembler_digest;
  dir = c.scene.dir;
  env = c.scene.env;
  input = c.parsed.input;
  double_dash_input = c.parsed.double_dash_input;
  language = c.parsed.language;
  outputs = paths_of c.parsed.outputs;
  preprocessor_args = c.parsed.preprocessor_args;
  dependency_args = c.parsed.dependency_args;
  unhashed_args = c.parsed.unhashed_args;
  common_args = c.parsed.common_args;
  arch_args = c.parsed.arch_args;
  extra_hash_files = c.parsed.extra_hash_files;
}

-- the call's input, where these are its contents
abbrev pub input_with : KeyCall → Bytes → Seen
input_with c contents = record {
  contents = contents;
  day = (place_of c).day;
  second = second_at c.scene.files (input_path c);
}

-- the digests, as text, of the files whose contents count
abbrev pub extra_digests : (Bytes → Bytes) → KeyCall → List Bytes
extra_digests digest_of c = map (λ contents. hex_of (digest_of contents)) (map (contents_in c.scene.files) (extra_paths c))

-- what the preprocessor would be given
unfoldable pub sights_by : (Bytes → Bytes) → KeyCall → Sights
sights_by digest_of c = sights_of digest_of (identity_by c) (extra_digests digest_of c) (input_with c (contents_in c.scene.files (input_path c)))

-- each length that is hashed for the call's entry key fits eight bytes
pub record IsFramed (digest_of : Bytes → Bytes) (c : KeyCall) : Type 0 where
  pub identity : IdentityFits (identity_by c)
  pub sights : SightsFit (sights_by digest_of c)

-- whether an input of these contents has a preprocessor key; one that isn't there has none
abbrev pub is_told : KeyCall → Option Bytes → Bool
is_told c None = false
is_told c (Some contents) = can_be_told (input_with c contents)

-- whether a call has an entry key: include records are asked for, and its input's contents don't forbid it
abbrev pub has_entry_key : KeyCall → Bool
has_entry_key c = asks_records c && is_told c (contents_at c.scene.files (input_path c))

abbrev pub entry_key_by : (Bytes → Bytes) → KeyCall → EntryKey
entry_key_by digest_of c = entry_key_with digest_of (identity_by c) (sights_by digest_of c)

-- the entry key of a call, if it has one
abbrev pub entry_key_of : (Bytes → Bytes) → KeyCall → Option EntryKey
entry_key_of digest_of c = if has_entry_key c then Some (entry_key_by digest_of c) else None

-- what the preprocessor printed, where it succeeded
abbrev pub good_text : Made → Option Bytes
good_text made = if int_eq made.status (pos 0) then Some (text_in made.contents) else None

-- what is recorded of a text on a call
abbrev pub includes_by : (Bytes → Bytes) → KeyCall → Bytes → Option (List IncludeEntry)
includes_by digest_of c text = recorded_of (place_of c) digest_of (input_path c) text

-- what the map has under a key
abbrev pub Held : Type 0
Held = EntryKey → Option Record

-- A result is a call's own: it has the key of the text that the call's preprocessor printed, and the include list of that text.
pub record IsOwnResult (digest_of : Bytes → Bytes) (p : PrintedCall) (r : CachedResult) : Type 0 where
  pub text : Bytes
  pub printed : good_text p.printed ≡ Some text
  pub is_key : r.key ≡ key_of digest_of (record_by p)
  pub includes : includes_by digest_of p.call text ≡ Some r.includes

-- A result that is held under a key is that of a call of this configuration, which has this entry key.
pub record IsRecorded (digest_of : Bytes → Bytes) (settings : Settings) (p : PrintedCall) (key : EntryKey) (r : CachedResult) : Type 0 where
  pub settled : p.call.settings ≡ settings
  pub is_entry : entry_key_of digest_of p.call ≡ Some key
  pub framed : IsFramed digest_of p.call
  pub own : IsOwnResult digest_of p r

-- each result of each record that is held is that of an earlier call
abbrev pub EntryInvariant : (Bytes → Bytes) → Settings → List PrintedCall → Held → Type 0
EntryInvariant digest_of settings earlier held = (key : EntryKey) (entry : Record) → held key ≡ Some entry → (r : CachedResult) → Contains entry.results r → (p : PrintedCall) × Contains earlier p × IsRecorded digest_of settings p key r

-- a result with this text key is held under the call's entry key, and its include list is there on the call's files
pub record HasMatch (digest_of : Bytes → Bytes) (c : KeyCall) (held : Held) (text_key : Bytes) : Type 0 where
  pub key : EntryKey
  pub is_entry : entry_key_of digest_of c ≡ Some key
  pub entry : Record
  pub is_held : held key ≡ Some entry
  pub r : CachedResult
  pub among : Contains entry.results r
  pub is_key : r.key ≡ text_key
  pub there : are_there (place_of c) digest_of r.includes ≡ true

-- the strings that are hashed for a call's entry key and record, beside its own record's: the two materials, the contents of extra files, and those of regular files
pub data IsHashedBy (digest_of : Bytes → Bytes) (c : KeyCall) (bytes : Bytes) : Type 0 where
  of_identity : bytes ≡ identity_material (identity_by c) → IsHashedBy digest_of c bytes
  of_sights : bytes ≡ sight_material (sights_by digest_of c) → IsHashedBy digest_of c bytes
  of_extra_file : Contains (map (contents_in c.scene.files) (extra_paths c)) bytes → IsHashedBy digest_of c bytes
  of_file : (path : Bytes) → contents_at c.scene.files path ≡ Some bytes → IsHashedBy digest_of c bytes

-- a string that is hashed by one of these calls
pub record IsHashedAmong (digest_of : Bytes → Bytes) (calls : List PrintedCall) (bytes : Bytes) : Type 0 where
  pub by : PrintedCall
  pub among : Contains calls by
  pub is : IsHashedBy digest_of by.call bytes

-- one identity
abbrev pub SameIdentity : KeyCall → KeyCall → Type 0
SameIdentity one other = identity_by one ≡ identity_by other

-- Texts are printed again: a text that the walk accepts is printed by each call of the same identity in the same surroundings.
abbrev pub AreReprinted : List PrintedCall → Type 0
AreReprinted calls = (earlier now : PrintedCall) (text : Bytes) (names : List Bytes) → Contains calls earlier → Contains calls now → good_text earlier.printed ≡ Some text → named_at (place_of earlier.call) (input_path earlier.call) text ≡ Some names → SameIdentity earlier.call now.call → SameSurroundings earlier.call now.call names → good_text now.printed ≡ Some text

-- What is assumed of calls that have entry keys.
pub record EntryPremises (digest_of : Bytes → Bytes) (calls : List PrintedCall) : Type 0 where
  pub distinct : Distinct digest_of (IsHashedAmong digest_of calls)
  pub reprinted : AreReprinted calls

-- the call, where it has an entry key
abbrev pub asking : PrintedCall → List PrintedCall
asking p = if has_entry_key p.call then p ∷ [] else []

-- A matching result is true of a call: it has the key of the call's own text, and the preprocessor doesn't fail.
pub record IsTrue (digest_of : Bytes → Bytes) (p : PrintedCall) (text_key : Bytes) : Type 0 where
  pub is_key : text_key ≡ key_of digest_of (record_by p)
  pub succeeds : p.printed.status ≡ pos 0

-- each matching result that is held is true of the call
abbrev pub AreTrue : (Bytes → Bytes) → PrintedCall → Held → Type 0
AreTrue digest_of p held = IsFramed digest_of p.call → (text_key : Bytes) → HasMatch digest_of p.call held text_key → IsTrue digest_of p text_key
