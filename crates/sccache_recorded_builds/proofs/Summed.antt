-- From what was noted of entries to their summary.
use Rattle.std.proofs.Common.{◌≡◌, ◌∙◌, ◌+◌, ap, sym, ℕ, Bool, true, false, cond, if◌then◌else◌, List, [], ◌∷◌, ◌++◌, append_assoc, append-nil, arith, filter, length, map, string_bytes}
use Rattle.std.proofs.lemmas.List.Elements.{All-weaker}
use Rattle.base_files.specs.Bytes.{Bytes}
use Rattle.sccache_recorded_builds.specs.Outcomes.{Outcome, is_kept}
use Rattle.sccache_recorded_builds.specs.Summaries as summaries
use Rattle.sccache_recorded_builds.specs.Summaries.{numbers_where}
use Rattle.sccache_recorded_builds.specs.Tallies as tallies
use Rattle.sccache_recorded_builds.specs.Tallies.{Row, numbers_in}
use Rattle.sccache_recorded_builds.specs.declared.entry.Entry.{Entry}
use Rattle.sccache_recorded_builds.specs.declared.tally.Tally.{Tally}

-- the numbers of entries and of one after them
numbers_after : (test : Entry → Bool) (first : ℕ) (entries : List Entry) (entry : Entry)
    → numbers_where test first (entries ++ entry ∷ [])
    ≡ numbers_where test first entries
    ++ (if test entry then (first + length entries) ∷ [] else [])
numbers_after test first [] entry =
    let same : first ≡ first + 0 = omega arith in
    append-nil (if test entry then first ∷ [] else [])
    ∙ ap (λ (number : ℕ). if test entry then number ∷ [] else []) same
numbers_after test first (one ∷ entries) entry =
    let here = if test one then first ∷ [] else [] in
    let more = numbers_where test (first + 1) entries in
    let same : (first + 1) + length entries ≡ first + length (one ∷ entries) = omega arith in
    ap (λ (numbers : List ℕ). here ++ numbers)
    (numbers_after test (first + 1) entries entry
    ∙ ap (λ (number : ℕ). more ++ (if test entry then number ∷ [] else [])) same)
    ∙ sym
    (append_assoc here more
    (if test entry then (first + length (one ∷ entries)) ∷ [] else []))

-- what was noted of entries and of one after them
pub noted_after : (noted next : List ℕ) (test : Entry → Bool) (number : ℕ) (entries : List Entry)
    (entry : Entry)
    → next ≡ noted ++ (if test entry then number ∷ [] else []) → number ≡ 1 + length entries
    → noted ≡ numbers_where test 1 entries
    → next ≡ numbers_where test 1 (entries ++ entry ∷ [])
noted_after noted next test number entries entry one is before =
    one
    ∙ ap (λ (numbers : List ℕ). numbers ++ (if test entry then number ∷ [] else [])) before
    ∙ ap
    (λ (other : ℕ). numbers_where test 1 entries ++ (if test entry then other ∷ [] else []))
    is
    ∙ sym (numbers_after test 1 entries entry)

kept_first : (b : Bool) (outcome : Outcome) (later : List Outcome)
    → length (cond b (outcome ∷ later) later) ≡ length later + (if b then 1 else 0)
kept_first true outcome later = omega arith
kept_first false outcome later = omega arith

kept_of_one_more : (of : Entry → Outcome) (entries : List Entry) (entry : Entry)
    → length (filter is_kept (map of (entries ++ entry ∷ [])))
    ≡ length (filter is_kept (map of entries)) + (if is_kept (of entry) then 1 else 0)
kept_of_one_more of [] entry = kept_first (is_kept (of entry)) (of entry) []
kept_of_one_more of (one ∷ entries) entry =
    let more = filter is_kept (map of (entries ++ entry ∷ [])) in
    let others = filter is_kept (map of entries) in
    let b = is_kept (of one) in
    omega (
      arith,
      kept_first b (of one) more,
      kept_first b (of one) others,
      kept_of_one_more of entries entry,
    )

pub kept_after :
    (kept next : ℕ) (of : Entry → Outcome) (entries : List Entry) (entry : Entry)
    → next ≡ kept + (if is_kept (of entry) then 1 else 0)
    → kept ≡ length (filter is_kept (map of entries))
    → next ≡ length (filter is_kept (map of (entries ++ entry ∷ [])))
kept_after kept next of entries entry one before =
    omega (arith, one, before, kept_of_one_more of entries entry)

-- then a tally's rows are those of the entries
pub rows_noted :
    (tally : Tally) (rows : List Row) (has : Bytes → Entry → Bool) (entries : List Entry)
    → ((name : Bytes) → numbers_in tally name ≡ numbers_where (has name) 1 entries)
    → tallies.AreRowsOf tally rows → summaries.AreRowsOf has entries rows
rows_noted tally rows has entries same made = record {
  numbers =
      All-weaker (λ (row : Row). row.1.items ≡ numbers_in tally (string_bytes row.0))
      (λ (row : Row). row.1.items ≡ numbers_where (has (string_bytes row.0)) 1 entries)
      (λ row is. is ∙ same (string_bytes row.0)) rows made.numbers;
  complete = λ name some. made.complete name (λ none. some (sym (same name) ∙ none));
  apart = made.apart;
  order = made.order;
}
