-- Which records are small.
use Rattle.std.proofs.Common.{◌≡◌, ◌≤◌, true, List, length}
use Rattle.std.proofs.lemmas.Bool.{and_from, le-leb, or_right}
use Rattle.ckeys_include_records.specs.Records.{includes_in, is_small}
use Rattle.ckeys_include_records.specs.declared.entry.CachedResult.{CachedResult}

pub is_small-many : (results : List CachedResult) → length results ≤ 101 → includes_in results ≤ 10000 → is_small results ≡ true
is_small-many results few bounded = and_from _ _ (le-leb (length results) 101 few) (or_right _ _ (le-leb (includes_in results) 10000 bounded))
