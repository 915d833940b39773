-- What a look-up in a record answers.
use Rattle.std.specs.Prelude.{◌≡◌, true, false, List, reverse, Option, None, Some}
use Rattle.std.specs.List.{Contains, find}
use Rattle.std.specs.Option.{option_map}
use Rattle.base_files.specs.Bytes.{Bytes}
use Rattle.ckeys_include_records.specs.Records.{is_before}
use Rattle.ckeys_include_records.specs.Surroundings.{Place, are_there}
use Rattle.ckeys_include_records.specs.declared.entry.CachedResult.{CachedResult}

-- the key of a result whose include list is there; none where no result's is
abbrev pub LooksUp : (Bytes → Bytes) → Place → List CachedResult → Option Bytes → Type 0
LooksUp digest_of place results None = (r : CachedResult) → Contains results r → are_there place digest_of r.includes ≡ false
LooksUp digest_of place results (Some text_key) = (r : CachedResult) × Contains results r × (r.key ≡ text_key) × (are_there place digest_of r.includes ≡ true)

-- no result whose include list is there has a greater key
abbrev pub NoneAbove : (Bytes → Bytes) → Place → List CachedResult → Bytes → Type 0
NoneAbove digest_of place results text_key = (r : CachedResult) → Contains results r → are_there place digest_of r.includes ≡ true → is_before text_key r.key ≡ false

-- the key of the last result whose include list is there: the greatest such key, since keys rise
abbrev pub last_there : (Bytes → Bytes) → Place → List CachedResult → Option Bytes
last_there digest_of place results = option_map (λ r. r.key) (find (λ r. are_there place digest_of r.includes) (reverse results))
