use Rattle.std.proofs.Common.{◌≡◌, drop}
use Rattle.ckeys_include_records.specs.Sightings.{AreTrue}
use Rattle.ckeys_include_records.specs.Surroundings.{are_there, place_with}
use Rattle.ckeys_include_records.proofs.sighting.Sightings.are_there.Given as goal

abbrev pub invariant-loop-include : goal.invariant-loop-include
invariant-loop-include g l =
    let place = place_with l.fn.dir (g.F.Files.tree l.fn.files) l.fn.day in
    record {
      seen : AreTrue g.H.HashState.digest_of place l.self;
      so_far : are_there place g.H.HashState.digest_of (drop l.include-index l.includes) ≡ are_there place g.H.HashState.digest_of l.includes;
      tree : g.F.Files.tree l.files ≡ g.F.Files.tree l.fn.files;
      steady : g.F.Files.failed l.files ≡ g.F.Files.failed l.fn.files;
    }
