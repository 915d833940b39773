use Rattle.std.proofs.Common.{rules, ◌≡◌, subst, length}
use Rattle.std.specs.List.Sorted.{IsPermutation}
use Rattle.std.proofs.lemmas.Cmp.{nat_cmp_total}
use Rattle.std.proofs.lemmas.List.Sorted.{IsStrictWeakOrder-flip, answers_always, ranks_by}
use Rattle.sccache_recorded_builds.specs.Tallies.{Row, has_more}
use Rattle.sccache_recorded_builds.proofs.Tallied.{names_apart, rows_told, row_found}
use Rattle.sccache_recorded_builds.proofs.tally.Tally.into_rows.Goals as goal

pub returns : goal.returns
returns c =
    let rows = c.sort_by.new.self.items in
    let same : c.in_ok-rows.rows.items ≡ c.args.self.names.entries = search rules in
    let moved = subst (λ items. IsPermutation items rows) same c.sort_by.ensures.permutation in
    record {
      numbers = rows_told c.args.self c.into_iter.ensures.into_iter_gives.5 rows moved;
      apart = names_apart c.args.self c.into_iter.ensures.into_iter_gives.5 rows moved;
      complete = row_found c.args.self rows moved;
      order =
          c.in_ok-sort_by.ensures.sorted has_more
          (IsStrictWeakOrder-flip _ (ranks_by nat_cmp_total (λ (row : Row). length row.1.items)))
          (answers_always _ _ _ (λ a r q k. search rules));
    }
