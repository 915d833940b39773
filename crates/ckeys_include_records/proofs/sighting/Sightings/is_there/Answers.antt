use Rattle.std.proofs.Common.{sym, ap, ◌∙◌, Option}
use Rattle.ckeys_include_records.specs.Sightings.{fits_seen}
use Rattle.ckeys_include_records.specs.Surroundings.{place_with}
use Rattle.ckeys_include_records.specs.declared.sighting.Seen.{Seen}
use Rattle.ckeys_include_records.proofs.Looking.{seen-is_there}
use Rattle.ckeys_include_records.proofs.sighting.Sightings.is_there.Goals as goal

pub returns-in-Some-clause-there : goal.returns-in-Some-clause-there
returns-in-Some-clause-there g c =
    let place = place_with c.args.dir.now (g.F.Files.tree c.args.files.now) c.args.day in
    let true_of = c.requires c.args.include.now.path c.in-Some.seen.now (sym c.in-Some.ensures.value) in
    c.fits_seen.ensures ∙ ap (λ (seen : Option Seen). fits_seen c.args.day c.args.include.now seen) true_of ∙ seen-is_there g.H.HashState.digest_of place c.args.include.now

pub returns-clause-there : goal.returns-clause-there
returns-clause-there g c =
    let place = place_with c.args.dir.now (g.F.Files.tree c.args.files.now) c.args.day in
    c.fits_seen-fits.ensures ∙ ap (λ (seen : Option Seen). fits_seen c.args.day c.args.include.now seen) (c.in_ok-seen.ensures.seen c.args.day) ∙ seen-is_there g.H.HashState.digest_of place c.args.include.now
