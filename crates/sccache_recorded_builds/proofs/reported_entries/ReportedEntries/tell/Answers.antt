use Rattle.std.proofs.Common.{◌≡◌, ◌+◌, ◌∷◌, [], arith, length, length-append}
use Rattle.sccache_recorded_builds.specs.Verdicts.{verdict_of}
use Rattle.sccache_recorded_builds.specs.Reasons.{holds, is_blocked_by, is_passed_for}
use Rattle.sccache_recorded_builds.specs.Tallies.{numbers_in}
use Rattle.sccache_recorded_builds.proofs.Summed.{kept_after, noted_after}
use Rattle.sccache_recorded_builds.proofs.reported_entries.ReportedEntries.tell.Goals as goal

pub returns-clause-told : goal.returns-clause-told
returns-clause-told g c =
    λ entries before.
    let tree = c.args.files.now.files in
    let entry = c.args.entry.now in
    let noted = c.args.self.now.noted in
    let next = c.tell.new.noted in
    let one = c.in_ok-tell.ensures in
    let number = c.in_ok-number.number in
    let is : number ≡ 1 + length entries =
    omega (arith, c.in_ok-number.ensures.number, before.count) in
    record {
      count = omega (arith, is, length-append entries (entry ∷ []));
      kept =
          kept_after noted.kept next.kept (verdict_of tree) entries entry one.kept before.kept;
      reasons =
          λ name. noted_after (numbers_in noted.reasons name) (numbers_in next.reasons name)
          (is_passed_for tree name) number entries entry (one.reasons name) is
          (before.reasons name);
      blockers =
          λ name. noted_after (numbers_in noted.blockers name) (numbers_in next.blockers name)
          (is_blocked_by tree name) number entries entry (one.blockers name) is
          (before.blockers name);
      beware =
          λ name. noted_after (numbers_in noted.beware name) (numbers_in next.beware name)
          (holds tree name) number entries entry (one.beware name) is (before.beware name);
    }
