-- What an entry key determines, where digests are distinct.
use Rattle.std.specs.Prelude.{◌≡◌, if◌then◌else◌, List, Option, None, Some}
use Rattle.base_files.specs.Bytes.{Bytes}
use Rattle.ckeys_base.specs.Hex.{hex_of}
use Rattle.ckeys_include_records.specs.Identity.{Identity, IdentityFits, identity_material}
use Rattle.ckeys_include_records.specs.Sights.{Seen, Sights, SightsFit, can_be_told, sight_material, sights_of}
use Rattle.ckeys_include_records.specs.declared.entry_key.EntryKey.{EntryKey}

-- these two strings are equal where their digests are
abbrev pub AreApart : (Bytes → Bytes) → Bytes → Bytes → Type 0
AreApart digest_of one other = digest_of one ≡ digest_of other → one ≡ other

-- the key of who asks and what the preprocessor would be given
abbrev pub entry_key_with : (Bytes → Bytes) → Identity → Sights → EntryKey
entry_key_with digest_of i s = record {
  identity = hex_of (digest_of (identity_material i));
  key = hex_of (digest_of (sight_material s));
}

-- the entry key of who asks, with these digests of extra files, over this input, if it has one
abbrev pub entry_key_over : (Bytes → Bytes) → Identity → List Bytes → Seen → Option EntryKey
entry_key_over digest_of i extra seen =
    if can_be_told seen then Some (entry_key_with digest_of i (sights_of digest_of i extra seen)) else None

-- who asks and what would be given, of two calls: their lengths fit, and what is hashed for them has no digest in common
-- unless it is equal
pub record AreTold (digest_of : Bytes → Bytes) (i j : Identity) (s t : Sights) : Type 0 where
  pub identities : IdentityFits i × IdentityFits j
  pub sights : SightsFit s × SightsFit t
  pub identities_apart : AreApart digest_of (identity_material i) (identity_material j)
  pub sights_apart : AreApart digest_of (sight_material s) (sight_material t)
