-- The summary of a recorded build: how many entries there are, how many are kept, and which ones have
-- each reason or option.
use Rattle.std.specs.Prelude.{◌≡◌, ◌≢◌, ℕ, ◌+◌, Bool, List, [], ◌∷◌, ◌++◌, filter, length, map, All, if◌then◌else◌, string_bytes}
use Rattle.std.specs.List.Sorted.{IsSortedBy}
use Rattle.base_files.specs.Bytes.{Bytes}
use Rattle.base_files.specs.Tree.{Tree}
use Rattle.sccache_recorded_builds.specs.Outcomes.{is_kept}
use Rattle.sccache_recorded_builds.specs.Verdicts.{verdict_of}
use Rattle.sccache_recorded_builds.specs.Reasons.{holds, is_blocked_by, is_passed_for}
use Rattle.sccache_recorded_builds.specs.Tallies.{HasRow, HaveNamesApart, Row, has_more, numbers_in}
use Rattle.sccache_recorded_builds.specs.declared.entry.Entry.{Entry}
use Rattle.sccache_recorded_builds.specs.declared.summary.Summary.{Summary}
use Rattle.sccache_recorded_builds.specs.declared.reported_entries.ReportedEntries.{ReportedEntries}

-- the numbers of the entries that pass the test, where the first of all has that number
abbrev pub numbers_where : (Entry → Bool) → ℕ → List Entry → List ℕ
numbers_where test number [] = []
numbers_where test number (entry ∷ entries) =
    (if test entry then number ∷ [] else []) ++ numbers_where test (number + 1) entries

-- Rows that list which entries have each name: each row the numbers of all that have its name, with
-- one row for each name that one has, and the names that most have first.
pub record AreRowsOf
    (has : Bytes → Entry → Bool) (entries : List Entry) (rows : List Row) : Type 0 where
  pub numbers : All (λ row. row.1.items ≡ numbers_where (has (string_bytes row.0)) 1 entries) rows
  pub complete : (name : Bytes) → numbers_where (has name) 1 entries ≢ [] → HasRow rows name
  pub apart : HaveNamesApart rows
  pub order : IsSortedBy has_more rows

pub record IsSummaryOf (tree : Tree) (entries : List Entry) (summary : Summary) : Type 0 where
  pub count : summary.entries ≡ length entries
  pub kept : summary.kept ≡ length (filter is_kept (map (verdict_of tree) entries))
  pub reasons : AreRowsOf (is_passed_for tree) entries summary.reasons.items
  pub blockers : AreRowsOf (is_blocked_by tree) entries summary.blockers.items
  pub beware : AreRowsOf (holds tree) entries summary.beware.items

-- What was noted of these entries, reported in this order with these files: how many they are, how many
-- are kept, and the numbers of those that have each reason or option.
pub record HasTold (tree : Tree) (entries : List Entry) (reported : ReportedEntries) : Type 0 where
  pub count : reported.count ≡ length entries
  pub kept : reported.noted.kept ≡ length (filter is_kept (map (verdict_of tree) entries))
  pub reasons : (name : Bytes)
      → numbers_in reported.noted.reasons name ≡ numbers_where (is_passed_for tree name) 1 entries
  pub blockers : (name : Bytes)
      → numbers_in reported.noted.blockers name ≡ numbers_where (is_blocked_by tree name) 1 entries
  pub beware : (name : Bytes)
      → numbers_in reported.noted.beware name ≡ numbers_where (holds tree name) 1 entries
