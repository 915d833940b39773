use Rattle.std.proofs.Common.{refl}
use Rattle.sccache_recorded_builds.proofs.reported_entries.ReportedEntries.new.Goals as goal

pub returns : goal.returns
returns c =
    λ tree.
    let none = c.new.ensures in
    record {
      count = refl;
      kept = none.kept;
      reasons = none.reasons;
      blockers = none.blockers;
      beware = none.beware;
    }
