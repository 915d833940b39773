-- Names given once.
use Rattle.std.proofs.Common.{◌≡◌, ◌||◌, ◌&&◌, Bool, true, false, not, if◌then◌else◌, List, [], ◌∷◌, refl, ap, sym, ◌∙◌}
use Rattle.std.proofs.lemmas.Map.Keys.{IsDistinct-cons}
use Rattle.std.proofs.lemmas.Map.Views.{any-filter_same}
use Rattle.std.proofs.lemmas.Slice.Eq.{bytes_eq-Decides}
use Rattle.std.specs.List.{AllByRecursion, IsDistinct, filter, list_any}
use Rattle.std.specs.Str.{bytes_eq}
use Rattle.base_files.specs.Bytes.{Bytes}
use Rattle.ckeys_marker_walk.proofs.Walking.{filter_both, filter_twice, same_test}
use Rattle.ckeys_marker_walk.specs.Named.{once}

-- other names than this
abbrev others : Bytes → List Bytes → List Bytes
others name names = filter (λ other. not (bytes_eq name other)) names

apart_by : (name y : Bytes) (ys : List Bytes) (same : Bool) → bytes_eq name y ≡ same → AllByRecursion (λ other. bytes_eq name other ≡ false) ys → AllByRecursion (λ other. bytes_eq name other ≡ false) (if not same then y ∷ ys else ys)
apart_by name y ys true is h = h
apart_by name y ys false is h = (is, h)

apart : (name : Bytes) (names : List Bytes) → AllByRecursion (λ other. bytes_eq name other ≡ false) (others name names)
apart name [] = tt
apart name (y ∷ ys) = apart_by name y (others name ys) (bytes_eq name y) refl (apart name ys)

all_by : (P : Bytes → Type 0) (y : Bytes) (ys : List Bytes) (keeps : Bool) → P y → AllByRecursion P ys → AllByRecursion P (if keeps then y ∷ ys else ys)
all_by P y ys true h k = (h, k)
all_by P y ys false h k = k

all_filtered : (P : Bytes → Type 0) (test : Bytes → Bool) (ys : List Bytes) → AllByRecursion P ys → AllByRecursion P (filter test ys)
all_filtered P test [] h = tt
all_filtered P test (y ∷ ys) h = all_by P y (filter test ys) (test y) h.0 (all_filtered P test ys h.1)

distinct_by : (y : Bytes) (ys : List Bytes) (keeps : Bool) → AllByRecursion (λ other. bytes_eq y other ≡ false) ys → IsDistinct bytes_eq ys → IsDistinct bytes_eq (if keeps then y ∷ ys else ys)
distinct_by y ys true h k = IsDistinct-cons bytes_eq y ys h k
distinct_by y ys false h k = k

pub distinct_filtered : (test : Bytes → Bool) (ys : List Bytes) → IsDistinct bytes_eq ys → IsDistinct bytes_eq (filter test ys)
unfolding IsDistinct
distinct_filtered test [] h = tt
distinct_filtered test (y ∷ ys) h = distinct_by y (filter test ys) (test y) (all_filtered (λ other. bytes_eq y other ≡ false) test ys h.0) (distinct_filtered test ys h.1)

pub all_distinct : (names : List Bytes) → IsDistinct bytes_eq (once names)
unfolding IsDistinct
all_distinct [] = tt
all_distinct (name ∷ names) = IsDistinct-cons bytes_eq name (others name (once names)) (apart name (once names)) (distinct_filtered (λ other. not (bytes_eq name other)) (once names) (all_distinct names))

turned : (a b : Bytes) → bytes_eq a b ≡ bytes_eq b a
turned a b = same_test _ _ (λ e. (bytes_eq-Decides b a).1 (sym ((bytes_eq-Decides a b).0 e))) (λ e. (bytes_eq-Decides a b).1 (sym ((bytes_eq-Decides b a).0 e)))

either : (a rest : Bool) → (a || (not a && rest)) ≡ (a || rest)
either true rest = refl
either false rest = refl

pub all_kept_once : (names : List Bytes) (name : Bytes) → list_any (bytes_eq name) (once names) ≡ list_any (bytes_eq name) names
all_kept_once [] name = refl
all_kept_once (first ∷ names) name =
    let same = any-filter_same (bytes_eq name) (λ other. not (bytes_eq first other)) (not (bytes_eq name first))
    (λ k e. ap not (ap (bytes_eq first) (sym ((bytes_eq-Decides name k).0 e)) ∙ turned first name)) (once names) in
    ap (λ (t : Bool). bytes_eq name first || t) (same ∙ ap (λ (t : Bool). not (bytes_eq name first) && t) (all_kept_once names name))
    ∙ either (bytes_eq name first) (list_any (bytes_eq name) names)

plain_or_not : (test : Bytes → Bool) (first y : Bytes) (same : Bool) → test first ≡ false → bytes_eq first y ≡ same → test y ≡ true → not (bytes_eq first y) ≡ true
plain_or_not test first y false fails is passes = ap not is
plain_or_not test first y true fails is passes = let e : test y ≡ false = ap test (sym ((bytes_eq-Decides first y).0 is)) ∙ fails in cc

swap : (a b : Bool) → (a && b) ≡ (b && a)
swap true true = refl
swap true false = refl
swap false true = refl
swap false false = refl

chosen_by : (test : Bytes → Bool) (first : Bytes) (names chosen : List Bytes) (passes : Bool) → test first ≡ passes → once chosen ≡ filter test (once names) → once (if passes then first ∷ chosen else chosen) ≡ (if passes then first ∷ filter test (others first (once names)) else filter test (others first (once names)))
chosen_by test first names chosen true is h =
    ap (λ (l : List Bytes). first ∷ others first l) h
    ∙ ap (λ (l : List Bytes). first ∷ l) (filter_both test (λ other. not (bytes_eq first other)) (λ other. test other && not (bytes_eq first other)) (λ y. refl) (once names)
    ∙ sym (filter_both (λ other. not (bytes_eq first other)) test (λ other. test other && not (bytes_eq first other)) (λ y. swap (test y) (not (bytes_eq first y))) (once names)))
chosen_by test first names chosen false is h =
    h ∙ sym (filter_twice test (λ other. not (bytes_eq first other)) (λ y passes. plain_or_not test first y (bytes_eq first y) is refl passes) (once names))

pub all_chosen : (test : Bytes → Bool) (names : List Bytes) → once (filter test names) ≡ filter test (once names)
all_chosen test [] = refl
all_chosen test (first ∷ names) = chosen_by test first names (filter test names) (test first) refl (all_chosen test names)
