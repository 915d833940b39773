-- The include list of names is that of each of them, or there is none.
use Rattle.std.proofs.Common.{◌≡◌, ◌||◌, Bool, true, false, if◌then◌else◌, List, [], ◌∷◌, map, Option, None, Some, is_none, refl, ap, ◌∙◌}
use Rattle.std.specs.List.{list_any}
use Rattle.std.specs.Option.{option_map, unwrap_or}
use Rattle.base_files.specs.Bytes.{Bytes}
use Rattle.base_files.specs.Tree.{contents_at}
use Rattle.ckeys_include_records.specs.Listing.{include_at, lacks, list_of}
use Rattle.ckeys_include_records.specs.Surroundings.{Place, in_front, include_with, included, includes_of, lacks_day, path_at}
use Rattle.ckeys_include_records.specs.declared.entry.IncludeEntry.{IncludeEntry}

module _ (place : Place) (digest_of : Bytes → Bytes) where
  -- the list where some name lacks something, or none does
  abbrev list_if : Bool → List IncludeEntry → Option (List IncludeEntry)
  list_if any others = if any then None else Some others

  one_more : (i : IncludeEntry) (any : Bool) (others : List IncludeEntry) → option_map (λ rest. i ∷ rest) (list_if any others) ≡ list_if any (i ∷ others)
  one_more i true others = refl
  one_more i false others = refl

  by_day : (i : IncludeEntry) (lacking any : Bool) (rest : Option (List IncludeEntry)) (others : List IncludeEntry) → rest ≡ list_if any others
      → in_front place digest_of (if lacking then None else Some i) rest ≡ list_if (lacking || any) (i ∷ others)
  by_day i true any rest others h = refl
  by_day i false any rest others h = ap (option_map (λ rest. i ∷ rest)) h ∙ one_more i any others

  by_contents : (name : Bytes) (found : Option Bytes) (any : Bool) (rest : Option (List IncludeEntry)) (others : List IncludeEntry) → rest ≡ list_if any others
      → in_front place digest_of (included place digest_of name found) rest
      ≡ list_if ((is_none found || lacks_day (unwrap_or found []) place.day) || any) (include_with place digest_of name (unwrap_or found []) ∷ others)
  by_contents name None any rest others h = refl
  by_contents name (Some contents) any rest others h =
      by_day (include_with place digest_of name contents) (lacks_day contents place.day) any rest others h

  pub list_of_each : (names : List Bytes) → includes_of place digest_of names ≡ list_of place digest_of names
  list_of_each [] = refl
  list_of_each (name ∷ names) =
      by_contents name (contents_at place.files (path_at place name)) (list_any (lacks place) names)
      (includes_of place digest_of names) (map (include_at place digest_of) names) (list_of_each names)
