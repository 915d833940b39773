use Rattle.ckeys_include_records.proofs.Alike.{identities_alike, sights_alike}
use Rattle.ckeys_include_records.proofs.key_laws.materials_tell_calls.Goals as goal

pub returns-clause-identity : goal.returns-clause-identity
returns-clause-identity c = identities_alike c.names_tell_kinds.ensures c.framed_parts_are_told.ensures

pub returns-clause-sights : goal.returns-clause-sights
returns-clause-sights c = sights_alike c.framed_parts_are_told.ensures
