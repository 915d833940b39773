use Rattle.std.proofs.Common.{◌∙◌}
use Rattle.sccache_recorded_builds.specs.Reasons.{holds, is_blocked_by, is_passed_for}
use Rattle.sccache_recorded_builds.proofs.Summed.{rows_noted}
use Rattle.sccache_recorded_builds.proofs.reported_entries.ReportedEntries.into_summary.Goals as goal

pub returns : goal.returns
returns c =
    λ tree entries told.
    let made = c.in_ok-summary.ensures in
    let summary = c.in_ok-summary.summary in
    let noted = c.args.self.noted in
    record {
      count = made.entries ∙ told.count;
      kept = made.kept ∙ told.kept;
      reasons =
          rows_noted noted.reasons summary.reasons.items (is_passed_for tree) entries told.reasons
          made.reasons;
      blockers =
          rows_noted noted.blockers summary.blockers.items (is_blocked_by tree) entries
          told.blockers made.blockers;
      beware =
          rows_noted noted.beware summary.beware.items (holds tree) entries told.beware
          made.beware;
    }
