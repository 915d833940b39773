use Rattle.std.proofs.Common.{◌≡◌, ◌≤◌, take, length}
use Rattle.ckeys_include_records.specs.LookUps.{last_there}
use Rattle.ckeys_include_records.specs.Sightings.{AreTrue}
use Rattle.ckeys_include_records.specs.Surroundings.{place_with}
use Rattle.ckeys_include_records.proofs.record.PreprocessorCacheEntry.last_there.Given as goal

abbrev pub invariant-loop-left : goal.invariant-loop-left
invariant-loop-left g l =
    let place = place_with l.fn.dir (g.F.Files.tree l.fn.files) l.fn.day in
    record {
      within : l.left ≤ length l.fn.self.results;
      so_far : last_there g.H.HashState.digest_of place (take l.left l.fn.self.results) ≡ last_there g.H.HashState.digest_of place l.fn.self.results;
      seen : AreTrue g.H.HashState.digest_of place l.sightings;
      tree : g.F.Files.tree l.files ≡ g.F.Files.tree l.fn.files;
      steady : g.F.Files.failed l.files ≡ g.F.Files.failed l.fn.files;
    }

abbrev pub decreases-loop-left : goal.decreases-loop-left
decreases-loop-left g l = l.left
