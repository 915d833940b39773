use Rattle.std.proofs.Common.{ap}
use Rattle.ckeys_include_records.specs.Identity.{identity_material}
use Rattle.ckeys_include_records.specs.Sights.{sight_material}
use Rattle.ckeys_include_records.specs.declared.entry_key.EntryKey.{EntryKey}
use Rattle.ckeys_include_records.proofs.key_laws.entry_keys_tell_calls.Goals as goal

pub returns-clause-identity : goal.returns-clause-identity
returns-clause-identity g c i j s t told e =
    let texts = ap (λ (key : EntryKey). key.identity) e in
    let digests = c.texts_tell_digests.ensures.tells (identity_material i) (identity_material j) texts in
    c.materials_tell_calls.ensures.identity i j told.identities.0 told.identities.1 (told.identities_apart digests)

pub returns-clause-sights : goal.returns-clause-sights
returns-clause-sights g c i j s t told e =
    let texts = ap (λ (key : EntryKey). key.key) e in
    let digests = c.texts_tell_digests.ensures.tells (sight_material s) (sight_material t) texts in
    c.materials_tell_calls.ensures.sights s t told.sights.0 told.sights.1 (told.sights_apart digests)
