-- A set of names, and one more or less of them.
use Rattle.std.proofs.Common.{◌≡◌, Bool, true, false, ◌||◌, List, [], ◌∷◌, ◌++◌, refl, ap, sym, ◌∙◌}
use Rattle.std.specs.Prelude.{cond, not}
use Rattle.std.specs.Str.{bytes_eq}
use Rattle.std.proofs.lemmas.List.Folds.{list_any-append}
use Rattle.std.proofs.lemmas.Slice.Eq.{bytes_eq-Decides}
use Rattle.base_files.specs.Bytes.{Bytes}
use Rattle.rustc_texts.specs.Outputs.{has_name, with_name, without_name}
use Rattle.rustc_texts.proofs.EachOnce.{differs-back, has-among}

or-true : (b : Bool) → (b || true) ≡ true
or-true true = refl
or-true false = refl

or-false : (b : Bool) → (b || false) ≡ b
or-false true = refl
or-false false = refl

-- with one more name at the end there are that one, and those that there were
pub has-pushed : (names : List Bytes) (name other : Bytes) → has_name (names ++ name ∷ []) other ≡ cond (bytes_eq name other) true (has_name names other)
has-pushed names name other = list_any-append (bytes_eq other) names (name ∷ []) ∙ by (bytes_eq name other) refl
  where
    by : (same : Bool) → bytes_eq name other ≡ same → (has_name names other || (bytes_eq other name || false)) ≡ cond same true (has_name names other)
    by true h =
        let is : bytes_eq other name ≡ true = (bytes_eq-Decides other name).1 (sym ((bytes_eq-Decides name other).0 h)) in
        ap (λ b. has_name names other || (b || false)) is ∙ or-true (has_name names other)
    by false h = ap (λ b. has_name names other || (b || false)) (differs-back name other h) ∙ or-false (has_name names other)

-- a name that is there already is one of them
pub has-with : (names : List Bytes) (name other : Bytes) → has_name (with_name names name) other ≡ cond (bytes_eq name other) true (has_name names other)
has-with names name other = by (has_name names name) refl
  where
    there : has_name names name ≡ true → (same : Bool) → bytes_eq name other ≡ same → has_name names other ≡ cond same true (has_name names other)
    there h true same = ap (has_name names) (sym ((bytes_eq-Decides name other).0 same)) ∙ h
    there h false same = refl

    by : (has : Bool) → has_name names name ≡ has → has_name (cond has names (names ++ name ∷ [])) other ≡ cond (bytes_eq name other) true (has_name names other)
    by true h = there h (bytes_eq name other) refl
    by false h = has-pushed names name other

-- without a name there are those that there were but for it
gone : (name : Bytes) (names : List Bytes) → has_name (without_name names name) name ≡ false
gone name [] = refl
gone name (first ∷ names) = by (bytes_eq name first) refl (gone name names)
  where
    by : (same : Bool) → bytes_eq name first ≡ same → has_name (without_name names name) name ≡ false → has_name (cond (not same) (first ∷ without_name names name) (without_name names name)) name ≡ false
    by true h less = less
    by false h less = ap (λ b. b || has_name (without_name names name) name) h ∙ less

pub has-less : (names : List Bytes) (name other : Bytes) → has_name (without_name names name) other ≡ cond (bytes_eq name other) false (has_name names other)
has-less names name other = by (bytes_eq name other) refl
  where
    by : (same : Bool) → bytes_eq name other ≡ same → has_name (without_name names name) other ≡ cond same false (has_name names other)
    by true h = ap (has_name (without_name names name)) (sym ((bytes_eq-Decides name other).0 h)) ∙ gone name names
    by false h = has-among name other (differs-back name other h) names
