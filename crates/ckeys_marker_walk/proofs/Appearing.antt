-- Which files a text names, and in which order they appear first.
use Rattle.std.proofs.Common.{◌≡◌, ◌↔◌, ◌⊎◌, ◌||◌, inl, inr, Bool, true, false, not, if◌then◌else◌, List, [], ◌∷◌, ◌++◌, Option, None, Some, filter, option_and_then, refl, ap, sym, subst, ◌∙◌, arith}
use Rattle.std.proofs.lemmas.Bool.{or_left, or_right}
use Rattle.std.proofs.lemmas.Slice.Eq.{bytes_eq-Decides}
use Rattle.std.specs.List.{Contains, IsDistinct, cons_option, filter_map, list_any}
use Rattle.std.specs.Str.{bytes_eq}
use Rattle.base_files.specs.Bytes.{Bytes}
use Rattle.base_files.specs.Tree.{Tree}
use Rattle.ckeys_marker_walk.proofs.Once.{distinct_filtered}
use Rattle.ckeys_marker_walk.proofs.Readings.{marker_reads, one_name}
use Rattle.ckeys_marker_walk.proofs.ReadingsBack.{reads_marker}
use Rattle.ckeys_marker_walk.proofs.Telling.{are_once, here, here_or_later, later, marker_named, name_marked, names_distinct, names_in, refused_text, text_refused}
use Rattle.ckeys_marker_walk.specs.Appearing.{AppearsBefore, IsRefusedOn, NamesFile, StandsBefore, by_file, by_text}
use Rattle.ckeys_marker_walk.specs.Lines.{lines}
use Rattle.ckeys_marker_walk.specs.Markers.{IsMarker}
use Rattle.ckeys_marker_walk.specs.Named.{accepted, is_named, marker_names, name_of, named_files_of, once, tells_time}
use Rattle.ckeys_marker_walk.specs.Scanning.{Sight, named, refused, sight_in}
use Rattle.ckeys_marker_walk.specs.Spelling.{meant}

-- what passes a test is in the list, and passes
abbrev Chosen : (Bytes → Bool) → List Bytes → Bytes → Type 0
Chosen test names name = Contains names name × (test name ≡ true)

chosen_by : (test : Bytes → Bool) (y name : Bytes) (ys : List Bytes) (passes : Bool) → test y ≡ passes → (Contains (filter test ys) name → Chosen test ys name)
    → Contains (if passes then y ∷ filter test ys else filter test ys) name → Chosen test (y ∷ ys) name
chosen_by test y name ys true is more h = elim (here_or_later y name (filter test ys) h) [
  | inl same ↦ (subst (Contains (y ∷ ys)) same (here y ys), subst (λ (z : Bytes). test z ≡ true) same is)
  | inr w ↦ let m = more w in (later y name ys m.0, m.1)
]
chosen_by test y name ys false is more h = let m = more h in (later y name ys m.0, m.1)

chosen : (test : Bytes → Bool) (names : List Bytes) (name : Bytes) → Contains (filter test names) name → Chosen test names name
chosen test [] name h = absurd (omega (arith, h.1))
chosen test (y ∷ ys) name h = chosen_by test y name ys (test y) refl (chosen test ys name) h

-- and what passes is chosen
kept_by : (test : Bytes → Bool) (y name : Bytes) (ys : List Bytes) (passes : Bool) → test y ≡ passes → test name ≡ true → (y ≡ name) ⊎ Contains (filter test ys) name
    → Contains (if passes then y ∷ filter test ys else filter test ys) name
kept_by test y name ys true is h (inl same) = subst (Contains (y ∷ filter test ys)) same (here y (filter test ys))
kept_by test y name ys true is h (inr w) = later y name (filter test ys) w
kept_by test y name ys false is h (inl same) = let e : test y ≡ true = ap test same ∙ h in cc
kept_by test y name ys false is h (inr w) = w

kept : (test : Bytes → Bool) (names : List Bytes) (name : Bytes) → Contains names name → test name ≡ true → Contains (filter test names) name
kept test [] name h is = absurd (omega (arith, h.1))
kept test (y ∷ ys) name h is = elim (here_or_later y name ys h) [
  | inl same ↦ kept_by test y name ys (test y) refl is (inl same)
  | inr w ↦ kept_by test y name ys (test y) refl is (inr (kept test ys name w is))
]

-- a name that passes
abbrev Passing : (Bytes → Bool) → List Bytes → Type 0
Passing test names = (name : Bytes) × Contains names name × (test name ≡ true)

passing_by : (test : Bytes → Bool) (y : Bytes) (ys : List Bytes) (passes : Bool) → test y ≡ passes → (list_any test ys ≡ true → Passing test ys) → (passes || list_any test ys) ≡ true → Passing test (y ∷ ys)
passing_by test y ys true is more h = (y, here y ys, is)
passing_by test y ys false is more h = let w = more h in (w.0, later y w.0 ys w.1, w.2)

passing : (test : Bytes → Bool) (names : List Bytes) → list_any test names ≡ true → Passing test names
passing test [] h = cc
passing test (y ∷ ys) h = passing_by test y ys (test y) refl (passing test ys) h

any_passes : (test : Bytes → Bool) (names : List Bytes) (name : Bytes) → Contains names name → test name ≡ true → list_any test names ≡ true
any_passes test [] name h is = absurd (omega (arith, h.1))
any_passes test (y ∷ ys) name h is = elim (here_or_later y name ys h) [
  | inl same ↦ or_left (test y) (list_any test ys) (ap test same ∙ is)
  | inr w ↦ or_right (test y) (list_any test ys) (any_passes test ys name w is)
]

module _ (one other : Bytes) where
  -- the one name comes, and the other one after it
  abbrev pub Earlier : List Bytes → Type 0
  Earlier [] = ⊥
  Earlier (y ∷ ys) = ((y ≡ one) × Contains ys other) ⊎ Earlier ys

  -- the one name comes before any other
  abbrev pub First : List Bytes → Type 0
  First [] = ⊥
  First (y ∷ ys) = (y ≡ one) ⊎ ((y ≡ other → ⊥) × First ys)

  earlier_at : (names front after : List Bytes) → names ≡ front ++ one ∷ after → Contains after other → Earlier names
  earlier_at [] [] after h w = let e : [] ≡ one ∷ after = h in cc
  earlier_at [] (f ∷ front) after h w = let e : [] ≡ f ∷ (front ++ one ∷ after) = h in cc
  earlier_at (y ∷ ys) [] after h w =
      let e : y ∷ ys ≡ one ∷ after = h in
      let first : y ≡ one = cc in
      let rest : after ≡ ys = cc in
      inl (first, subst (λ (l : List Bytes). Contains l other) rest w)
  earlier_at (y ∷ ys) (f ∷ front) after h w =
      let e : y ∷ ys ≡ f ∷ (front ++ one ∷ after) = h in
      let rest : ys ≡ front ++ one ∷ after = cc in
      inr (earlier_at ys front after rest w)

  other_stands : (names : List Bytes) → Earlier names → Contains names other
  other_stands [] h = absurd h
  other_stands (y ∷ ys) (inl h) = later y other ys h.1
  other_stands (y ∷ ys) (inr h) = later y other ys (other_stands ys h)

  earlier_by : (test : Bytes → Bool) (y : Bytes) (ys : List Bytes) (passes : Bool) → (Earlier (filter test ys) → Earlier ys)
      → Earlier (if passes then y ∷ filter test ys else filter test ys) → Earlier (y ∷ ys)
  earlier_by test y ys true more (inl h) = inl (h.0, (chosen test ys other h.1).0)
  earlier_by test y ys true more (inr h) = inr (more h)
  earlier_by test y ys false more h = inr (more h)

  -- of names that are chosen
  pub earlier_of : (test : Bytes → Bool) (names : List Bytes) → Earlier (filter test names) → Earlier names
  earlier_of test [] h = absurd h
  earlier_of test (y ∷ ys) h = earlier_by test y ys (test y) (earlier_of test ys) h

  isnt : (y : Bytes) → not (bytes_eq y other) ≡ true → y ≡ other → ⊥
  isnt y h same = let e : not (bytes_eq y other) ≡ false = ap not ((bytes_eq-Decides y other).1 same) in cc

  -- of names that are given once
  pub first_of : (names : List Bytes) → Earlier (once names) → First names
  first_of [] h = absurd h
  first_of (y ∷ ys) (inl h) = inl h.0
  first_of (y ∷ ys) (inr h) =
      let test : Bytes → Bool = λ (name : Bytes). not (bytes_eq y name) in
      let stands : Contains (filter test (once ys)) other = other_stands (filter test (once ys)) h in
      inr (isnt y (chosen test (once ys) other stands).1, first_of ys (earlier_of test (once ys) h))

  -- A line that is a marker of the one name, after lines that are not markers of the other.
  record Appears (ls : List Bytes) : Type 0 where
    front : List Bytes
    line : Bytes
    after : List Bytes
    whole : ls ≡ front ++ line ∷ after
    is : IsMarker line one
    none : (earlier : Bytes) → Contains front earlier → ¬ IsMarker earlier other

  after_line : (l : Bytes) (ls : List Bytes) → ¬ IsMarker l other → Appears ls → Appears (l ∷ ls)
  after_line l ls isnt_other a = record {
    front = l ∷ a.front;
    line = a.line;
    after = a.after;
    whole = ap (λ (k : List Bytes). l ∷ k) a.whole;
    is = a.is;
    none = λ earlier w. by earlier (here_or_later l earlier a.front w);
  }
    where
      by : (earlier : Bytes) → (l ≡ earlier) ⊎ Contains a.front earlier → ¬ IsMarker earlier other
      by earlier (inl same) m = isnt_other (subst (λ (x : Bytes). IsMarker x other) (sym same) m)
      by earlier (inr w) m = a.none earlier w m

  appears_in : (l : Bytes) (ls : List Bytes) (found : Option Sight) → sight_in l ≡ found → (First (names_in ls) → Appears ls)
      → First (filter_map name_of (cons_option found (filter_map sight_in ls))) → Appears (l ∷ ls)
  appears_in l ls None e more h = after_line l ls (λ m. let k = marker_reads l other m in cc) (more h)
  appears_in l ls (Some refused) e more h = after_line l ls (λ m. let k = marker_reads l other m in cc) (more h)
  appears_in l ls (Some (named raw)) e more (inl same) = record {
    front = [];
    line = l;
    after = ls;
    whole = refl;
    is = subst (IsMarker l) same (reads_marker l raw e);
    none = λ earlier w m. absurd (omega (arith, w.1));
  }
  appears_in l ls (Some (named raw)) e more (inr h) =
      after_line l ls (λ m. h.0 (one_name l (meant raw) other (reads_marker l raw e) m)) (more h.1)

  -- the one name comes first in lines
  appears : (ls : List Bytes) → First (names_in ls) → Appears ls
  appears [] h = absurd h
  appears (l ∷ ls) h = appears_in l ls (sight_in l) refl (appears ls) h

  pub appears_before : (text : Bytes) → First (names_in (lines text)) → AppearsBefore text one other
  appears_before text h =
      let a = appears (lines text) h in
      record { front = a.front; line = a.line; after = a.after; whole = a.whole; is = a.is; none = a.none }

module _ (dir : Bytes) (files : Tree) (input text : Bytes) where
  -- what is made of the names of the markers
  abbrev pub files_in : Option (List Bytes) → Option (List Bytes)
  files_in found = option_and_then (λ names. accepted dir files (filter (is_named dir files input) names)) found

  refused_by_any : (any : Bool) (names : List Bytes) → (if any then None else Some names) ≡ None → any ≡ true
  refused_by_any true names h = refl
  refused_by_any false names h = cc

  taken_by_any : (any : Bool) (names found : List Bytes) → (if any then None else Some names) ≡ Some found → names ≡ found
  taken_by_any true names found h = cc
  taken_by_any false names found h = cc

  -- of a text whose names are these
  module _ (names : List Bytes) (is : marker_names text ≡ Some names) where
    abbrev pub counted : List Bytes
    counted = filter (is_named dir files input) names

    pub file_named : (name : Bytes) → Contains counted name → NamesFile dir files input text name
    file_named name h =
        let c = chosen (is_named dir files input) names name h in
        (name_marked text names is name c.0, c.1)

    pub named_file : (name : Bytes) → NamesFile dir files input text name → Contains counted name
    named_file name h = kept (is_named dir files input) names name (marker_named text names is name h.0) h.1

    pub tells : accepted dir files counted ≡ None → IsRefusedOn dir files input text
    tells h =
        let any = refused_by_any (list_any (tells_time dir files) counted) counted h in
        let w = passing (tells_time dir files) counted any in
        by_file w.0 (file_named w.0 w.1) w.2

    pub told : (name : Bytes) → NamesFile dir files input text name → tells_time dir files name ≡ true → accepted dir files counted ≡ None
    told name h tell = ap (λ (any : Bool). if any then None else Some counted) (any_passes (tells_time dir files) counted name (named_file name h) tell)

    pub in_order : (one other : Bytes) → StandsBefore counted one other → AppearsBefore text one other
    in_order one other s =
        let stands = earlier_at one other counted s.front s.after s.whole s.stands in
        let all = earlier_of one other (is_named dir files input) names stands in
        appears_before one other text (first_of one other (names_in (lines text)) (subst (Earlier one other) (sym (are_once text names is)) all))

  refused_if : (found : Option (List Bytes)) → marker_names text ≡ found → files_in found ≡ None → IsRefusedOn dir files input text
  refused_if None is h = by_text (text_refused text is)
  refused_if (Some names) is h = tells names is h

  told_if : (found : Option (List Bytes)) → marker_names text ≡ found → (name : Bytes) → NamesFile dir files input text name → tells_time dir files name ≡ true → files_in found ≡ None
  told_if None is name h tell = refl
  told_if (Some names) is name h tell = told names is name h tell

  pub refused_on : named_files_of dir files input text ≡ None → IsRefusedOn dir files input text
  refused_on h = refused_if (marker_names text) refl h

  pub on_refused : IsRefusedOn dir files input text → named_files_of dir files input text ≡ None
  on_refused (by_text r) = ap files_in (refused_text text r)
  on_refused (by_file name h tell) = told_if (marker_names text) refl name h tell

  -- what is said of names that are found
  record Found (found : List Bytes) : Type 0 where
    names : List Bytes
    is : marker_names text ≡ Some names
    counts : filter (is_named dir files input) names ≡ found

  found_by : (o : Option (List Bytes)) (found : List Bytes) → marker_names text ≡ o → files_in o ≡ Some found → Found found
  found_by None found is h = let e : None ≡ Some found = h in cc
  found_by (Some names) found is h = record {
    names = names;
    is = is;
    counts = taken_by_any (list_any (tells_time dir files) (filter (is_named dir files input) names)) (filter (is_named dir files input) names) found h;
  }

  module _ (found : List Bytes) (are : named_files_of dir files input text ≡ Some found) where
    the : Found found
    the = found_by (marker_names text) found refl are

    pub each_named : (name : Bytes) → Contains found name ↔ NamesFile dir files input text name
    each_named name = (
      (λ h. file_named the.names the.is name (subst (λ (l : List Bytes). Contains l name) (sym the.counts) h)),
      (λ h. subst (λ (l : List Bytes). Contains l name) the.counts (named_file the.names the.is name h)),
    )

    pub no_two : IsDistinct bytes_eq found
    no_two = subst (IsDistinct bytes_eq) the.counts (distinct_filtered (is_named dir files input) the.names (names_distinct text the.names the.is))

    pub as_they_appear : (one other : Bytes) → StandsBefore found one other → AppearsBefore text one other
    as_they_appear one other s = in_order the.names the.is one other (subst (λ (l : List Bytes). StandsBefore l one other) (sym the.counts) s)
