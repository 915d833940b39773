-- What a walk computes, name by name, is the named files of the text.
use Rattle.std.proofs.Common.{◌≡◌, ◌||◌, ◌&&◌, ◌++◌, Bool, true, false, not, cond, if◌then◌else◌, List, [], ◌∷◌, Option, None, Some, refl, ap, sym, ◌∙◌, append_assoc, append-nil}
use Rattle.std.proofs.lemmas.Slice.Eq.{bytes_eq-Decides}
use Rattle.std.specs.Borrow.{Bor}
use Rattle.std.specs.List.{AllByRecursion, filter, filter_map, list_any}
use Rattle.std.specs.Option.{option_map, option_and_then}
use Rattle.std.specs.Str.{bytes_eq}
use Rattle.base_files.specs.Bytes.{Bytes}
use Rattle.base_files.specs.Tree.{Tree}
use Rattle.ckeys_marker_walk.proofs.Meaning.{meant-spelled}
use Rattle.ckeys_marker_walk.proofs.Spellings.{IsSpelledWell, all_spelled_well}
use Rattle.ckeys_marker_walk.specs.Named.{accepted, asks_for_more, is_named, name_of, named_files_of, names_told, once, refuses, tells_time}
use Rattle.ckeys_marker_walk.specs.Scanning.{Sight, named, refused, sights}
use Rattle.ckeys_marker_walk.specs.Seen.{has_come, slice_of}
use Rattle.ckeys_marker_walk.specs.Spelling.{meant, spelled}
use Rattle.ckeys_marker_walk.specs.Steps.{by_standing, came_before, names_after, names_with, or_this, standing_on}
use Rattle.ckeys_marker_walk.specs.declared.walk.Seen.{Seen}
use Rattle.ckeys_marker_walk.specs.declared.walk.Standing.{Standing}
use Rattle.ckeys_marker_walk.specs.declared.walk.Standing.TheVariants.{Counts, Refuses, Skipped}

-- the names that haven't come
abbrev pub fresh : (Bytes → Bool) → List Bytes → List Bytes
fresh came names = filter (λ name. not (came (spelled name))) names

none_by : (v : Standing) (name : Bytes) → by_standing v name None ≡ None
none_by Counts name = refl
none_by Skipped name = refl
none_by Refuses name = refl

twice_by : (keeps others : Bytes → Bool) (y : Bytes) (ys : List Bytes) (k o : Bool) → keeps y ≡ k → others y ≡ o → (keeps y ≡ true → others y ≡ true)
    → filter keeps (filter others ys) ≡ filter keeps ys → filter keeps (filter others (y ∷ ys)) ≡ filter keeps (y ∷ ys)
twice_by keeps others y ys k true is_k is_o h e =
    ap (λ (t : Bool). filter keeps (cond t (y ∷ filter others ys) (filter others ys))) is_o ∙ ap (λ (l : List Bytes). cond (keeps y) (y ∷ l) l) e
twice_by keeps others y ys false false is_k is_o h e =
    ap (λ (t : Bool). filter keeps (cond t (y ∷ filter others ys) (filter others ys))) is_o ∙ e ∙ sym (ap (λ (t : Bool). cond t (y ∷ filter keeps ys) (filter keeps ys)) is_k)
twice_by keeps others y ys true false is_k is_o h e = let o = h is_k in cc

-- what keeps fewer needs no other test
pub filter_twice : (keeps others : Bytes → Bool) → ((y : Bytes) → keeps y ≡ true → others y ≡ true) → (ys : List Bytes) → filter keeps (filter others ys) ≡ filter keeps ys
filter_twice keeps others h [] = refl
filter_twice keeps others h (y ∷ ys) = twice_by keeps others y ys (keeps y) (others y) refl refl (h y) (filter_twice keeps others h ys)

both_by : (first second both : Bytes → Bool) (y : Bytes) (ys : List Bytes) (f : Bool) → first y ≡ f → both y ≡ (first y && second y)
    → filter second (filter first ys) ≡ filter both ys → filter second (filter first (y ∷ ys)) ≡ filter both (y ∷ ys)
both_by first second both y ys true is h e =
    ap (λ (t : Bool). filter second (cond t (y ∷ filter first ys) (filter first ys))) is ∙ ap (λ (l : List Bytes). cond (second y) (y ∷ l) l) e
    ∙ sym (ap (λ (t : Bool). cond t (y ∷ filter both ys) (filter both ys)) (h ∙ ap (λ (t : Bool). t && second y) is))
both_by first second both y ys false is h e =
    ap (λ (t : Bool). filter second (cond t (y ∷ filter first ys) (filter first ys))) is ∙ e
    ∙ sym (ap (λ (t : Bool). cond t (y ∷ filter both ys) (filter both ys)) (h ∙ ap (λ (t : Bool). t && second y) is))

-- two tests in a row are one
pub filter_both : (first second both : Bytes → Bool) → ((y : Bytes) → both y ≡ (first y && second y)) → (ys : List Bytes) → filter second (filter first ys) ≡ filter both ys
filter_both first second both h [] = refl
filter_both first second both h (y ∷ ys) = both_by first second both y ys (first y) refl (h y) (filter_both first second both h ys)

counts_by : (name : Bytes) (names : List Bytes) (tells any : Bool) → by_standing (if tells then Refuses else Counts) name (if any then None else Some names) ≡ (if (tells || any) then None else Some (name ∷ names))
counts_by name names true any = refl
counts_by name names false true = refl
counts_by name names false false = refl

counted_by : (tells : Bytes → Bool) (name : Bytes) (names : List Bytes) (is : Bool) →
    by_standing (if is then (if tells name then Refuses else Counts) else Skipped) name (if list_any tells names then None else Some names)
    ≡ (if list_any tells (if is then name ∷ names else names) then None else Some (if is then name ∷ names else names))
counted_by tells name names true = counts_by name names (tells name) (list_any tells names)
counted_by tells name names false = refl

pub same_test : (a b : Bool) → (a ≡ true → b ≡ true) → (b ≡ true → a ≡ true) → a ≡ b
same_test true b h k = sym (h refl)
same_test false true h k = k refl
same_test false false h k = refl

not_either : (a b : Bool) → not (a || b) ≡ (not a && not b)
not_either true b = refl
not_either false b = refl

pub unfalse : (b : Bool) → not b ≡ true → b ≡ false
unfalse true h = cc
unfalse false h = refl

-- spellings are equal where the names are
spelled_alike : (raw y : Bytes) → spelled (meant raw) ≡ raw → bytes_eq raw (spelled y) ≡ bytes_eq (meant raw) y
spelled_alike raw y well = same_test _ _
    (λ e. (bytes_eq-Decides (meant raw) y).1 (ap meant ((bytes_eq-Decides raw (spelled y)).0 e) ∙ meant-spelled y))
    (λ e. (bytes_eq-Decides raw (spelled y)).1 (sym well ∙ ap spelled ((bytes_eq-Decides (meant raw) y).0 e)))

-- a name that has come is no fresh one
apart_by : (came : Bytes → Bool) (name y : Bytes) (same : Bool) → came (spelled name) ≡ true → bytes_eq name y ≡ same → not (came (spelled y)) ≡ true → not (bytes_eq name y) ≡ true
apart_by came name y false come is k = ap not is
apart_by came name y true come is k = let e = (bytes_eq-Decides name y).0 is in let here : came (spelled y) ≡ true = ap (λ (n : Bytes). came (spelled n)) (sym e) ∙ come in let k' = unfalse _ k in cc

fresh_again : (came : Bytes → Bool) (name : Bytes) (names : List Bytes) → came (spelled name) ≡ true → fresh came (filter (λ other. not (bytes_eq name other)) names) ≡ fresh came names
fresh_again came name names come = filter_twice (λ other. not (came (spelled other))) (λ other. not (bytes_eq name other)) (λ y. apart_by came name y (bytes_eq name y) come refl) names

fresh_more : (came : Bytes → Bool) (raw : Bytes) (names : List Bytes) → spelled (meant raw) ≡ raw → fresh came (filter (λ other. not (bytes_eq (meant raw) other)) names) ≡ fresh (or_this raw came) names
fresh_more came raw names well =
    filter_both (λ other. not (bytes_eq (meant raw) other)) (λ other. not (came (spelled other))) (λ other. not (or_this raw came (spelled other)))
    (λ y. not_either (bytes_eq raw (spelled y)) (came (spelled y)) ∙ ap (λ (t : Bool). not t && not (came (spelled y))) (spelled_alike raw y well)) names

module _ (dir : Bytes) (files : Tree) (input : Bytes) where
  -- the named files among names
  abbrev pub counting : List Bytes → Option (List Bytes)
  counting names = accepted dir files (filter (is_named dir files input) names)

  counted : (name : Bytes) (names : List Bytes) → by_standing (standing_on dir files input name) name (counting names) ≡ counting (name ∷ names)
  counted name names = counted_by (tells_time dir files) name (filter (is_named dir files input) names) (is_named dir files input name)

  -- the named files of these names that haven't come, where no line refuses
  abbrev pub ending : (Bytes → Bool) → Bool → List Bytes → Option (List Bytes)
  ending came refuses names = option_and_then (λ told. counting (fresh came (once told))) (if refuses then None else Some names)

  step : (came : Bytes → Bool) (raw : Bytes) (names : List Bytes) (refuses seen : Bool) (same more : Option (List Bytes)) → spelled (meant raw) ≡ raw → came raw ≡ seen
      → same ≡ ending came refuses names → more ≡ ending (or_this raw came) refuses names
      → (if came raw then same else by_standing (standing_on dir files input (meant raw)) (meant raw) more) ≡ ending came refuses (meant raw ∷ names)
  step came raw names true true same more well is h k =
      ap (λ (t : Bool). cond t same (by_standing (standing_on dir files input (meant raw)) (meant raw) more)) is ∙ h
  step came raw names true false same more well is h k =
      ap (λ (t : Bool). cond t same (by_standing (standing_on dir files input (meant raw)) (meant raw) more)) is
      ∙ ap (by_standing (standing_on dir files input (meant raw)) (meant raw)) k ∙ none_by (standing_on dir files input (meant raw)) (meant raw)
  step came raw names false true same more well is h k =
      let come : came (spelled (meant raw)) ≡ true = ap came well ∙ is in
      let others = filter (λ other. not (bytes_eq (meant raw) other)) (once names) in
      ap (λ (t : Bool). cond t same (by_standing (standing_on dir files input (meant raw)) (meant raw) more)) is ∙ h
      ∙ ap counting (sym (ap (λ (t : Bool). cond (not t) (meant raw ∷ fresh came others) (fresh came others)) come ∙ fresh_again came (meant raw) (once names) come))
  step came raw names false false same more well is h k =
      let come : came (spelled (meant raw)) ≡ false = ap came well ∙ is in
      let others = filter (λ other. not (bytes_eq (meant raw) other)) (once names) in
      ap (λ (t : Bool). cond t same (by_standing (standing_on dir files input (meant raw)) (meant raw) more)) is
      ∙ ap (by_standing (standing_on dir files input (meant raw)) (meant raw)) k ∙ counted (meant raw) (fresh (or_this raw came) (once names))
      ∙ ap counting (sym (ap (λ (t : Bool). cond (not t) (meant raw ∷ fresh came others) (fresh came others)) come ∙ ap (λ (l : List Bytes). meant raw ∷ l) (fresh_more came raw (once names) well)))

  after_all : (came : Bytes → Bool) (told : List Sight) → AllByRecursion IsSpelledWell told → names_after dir files input came told ≡ ending came (list_any refuses told) (filter_map name_of told)
  after_all came [] well = refl
  after_all came (refused ∷ told) well = refl
  after_all came (named raw ∷ told) well =
      step came raw (filter_map name_of told) (list_any refuses told) (came raw) (names_after dir files input came told) (names_after dir files input (or_this raw came) told) well.0 refl (after_all came told well.1) (after_all (or_this raw came) told well.1)

all_kept : (names : List Bytes) → fresh (λ _. false) names ≡ names
all_kept [] = refl
all_kept (name ∷ names) = ap (λ (l : List Bytes). name ∷ l) (all_kept names)

all_fresh : (told : Option (List Bytes)) (dir : Bytes) (files : Tree) (input : Bytes) →
    option_and_then (λ names. counting dir files input (fresh (λ _. false) (once names))) told ≡ option_and_then (counting dir files input) (option_map once told)
all_fresh None dir files input = refl
all_fresh (Some names) dir files input = ap (counting dir files input) (all_kept (once names))

after_none : (names : Option (List Bytes)) → option_map (λ others. [] ++ others) names ≡ names
after_none None = refl
after_none (Some names) = refl

module _ (dir : Bytes) (files : Tree) (input : Bytes) where
  -- before the first marker
  pub before_all : (text : Bytes) (names : List Bytes) (seen : Seen) → names ≡ [] → ((name : Bor Bytes) → has_come seen name ≡ false) → asks_for_more text ≡ false → names_with dir files input names seen (sights text) ≡ named_files_of dir files input text
  before_all text names seen empty none more =
      let came : came_before seen ≡ (λ _. false) = (λ j. λ raw. none (slice_of raw) j) in
      ap (λ (l : List Bytes). names_with dir files input l seen (sights text)) empty
      ∙ ap (λ (f : Bytes → Bool). option_map (λ others. [] ++ others) (names_after dir files input f (sights text))) came
      ∙ after_none (names_after dir files input (λ _. false) (sights text))
      ∙ after_all dir files input (λ _. false) (sights text) (all_spelled_well text)
      ∙ all_fresh (names_told (sights text)) dir files input
      ∙ sym (ap (λ (t : Bool). option_and_then (counting dir files input) (cond t None (option_map once (names_told (sights text))))) more)

  twice : (names : List Bytes) (name : Bytes) (rest : Option (List Bytes)) → option_map (λ others. names ++ others) (option_map (λ others. name ∷ others) rest) ≡ option_map (λ others. (names ++ name ∷ []) ++ others) rest
  twice names name None = refl
  twice names name (Some rest) = ap Some (sym (append_assoc names (name ∷ []) rest))

  module _ (names : List Bytes) (seen : Seen) (raw : Bytes) (told : List Sight) where
    -- one that comes first, with what becomes of it
    comes_first : (new : Seen) (v : Standing) → has_come seen (slice_of raw) ≡ false → ((other : Bor Bytes) → has_come new other ≡ (bytes_eq raw other.now || has_come seen other)) → standing_on dir files input (meant raw) ≡ v
        → names_with dir files input names seen (named raw ∷ told) ≡ option_map (λ others. names ++ others) (by_standing v (meant raw) (names_after dir files input (came_before new) told))
    comes_first new v first come is =
        let came : came_before new ≡ or_this raw (came_before seen) = (λ j. λ other. come (slice_of other) j) in
        ap (λ (t : Bool). option_map (λ others. names ++ others) (cond t (names_after dir files input (came_before seen) told) (by_standing (standing_on dir files input (meant raw)) (meant raw) (names_after dir files input (or_this raw (came_before seen)) told)))) first
        ∙ ap (λ (w : Standing). option_map (λ others. names ++ others) (by_standing w (meant raw) (names_after dir files input (or_this raw (came_before seen)) told))) is
        ∙ sym (ap (λ (f : Bytes → Bool). option_map (λ others. names ++ others) (by_standing v (meant raw) (names_after dir files input f told))) came)

    pub comes_first_counts : (new : Seen) (more : List Bytes) → has_come seen (slice_of raw) ≡ false → ((other : Bor Bytes) → has_come new other ≡ (bytes_eq raw other.now || has_come seen other)) → standing_on dir files input (meant raw) ≡ Counts
        → more ≡ names ++ meant raw ∷ [] → names_with dir files input names seen (named raw ∷ told) ≡ names_with dir files input more new told
    comes_first_counts new more first come is pushed =
        comes_first new Counts first come is ∙ twice names (meant raw) (names_after dir files input (came_before new) told)
        ∙ sym (ap (λ (l : List Bytes). names_with dir files input l new told) pushed)

    pub comes_first_skipped : (new : Seen) → has_come seen (slice_of raw) ≡ false → ((other : Bor Bytes) → has_come new other ≡ (bytes_eq raw other.now || has_come seen other)) → standing_on dir files input (meant raw) ≡ Skipped
        → names_with dir files input names seen (named raw ∷ told) ≡ names_with dir files input names new told
    comes_first_skipped new first come is = comes_first new Skipped first come is
