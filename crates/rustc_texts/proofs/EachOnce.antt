-- One more name.
use Rattle.std.proofs.Common.{◌≡◌, Bool, true, false, ◌||◌, List, [], ◌∷◌, ◌++◌, refl, ap, sym, ◌∙◌, append-nil, filter}
use Rattle.std.specs.Prelude.{not, cond, if◌then◌else◌}
use Rattle.std.specs.Str.{bytes_eq}
use Rattle.std.proofs.lemmas.List.Elements.{filter-append}
use Rattle.std.proofs.lemmas.Slice.Eq.{bytes_eq-Decides}
use Rattle.base_files.specs.Bytes.{Bytes}
use Rattle.rustc_texts.specs.Outputs.{each_once, has_name, with_name}

abbrev other_than : Bytes → Bytes → Bool
other_than name other = not (bytes_eq name other)

-- a name that isn't that one is among the others too
pub has-among : (name other : Bytes) → bytes_eq other name ≡ false → (names : List Bytes) → has_name (filter (other_than name) names) other ≡ has_name names other
has-among name other apart [] = refl
has-among name other apart (n ∷ names) = by (bytes_eq name n) refl (has-among name other apart names)
  where
    by : (b : Bool) → bytes_eq name n ≡ b → has_name (filter (other_than name) names) other ≡ has_name names other → has_name (cond (not b) (n ∷ filter (other_than name) names) (filter (other_than name) names)) other ≡ has_name (n ∷ names) other
    by true h more =
        let same : name ≡ n = (bytes_eq-Decides name n).0 h in
        let not_it : bytes_eq other n ≡ false = ap (bytes_eq other) (sym same) ∙ apart in
        more ∙ ap (λ b. b || has_name names other) (sym not_it)
    by false h more = ap (λ b. bytes_eq other n || b) more

pub differs-back : (one other : Bytes) → bytes_eq one other ≡ false → bytes_eq other one ≡ false
differs-back one other h = by (bytes_eq other one) refl
  where
    by : (b : Bool) → bytes_eq other one ≡ b → bytes_eq other one ≡ false
    by true q =
        let same : other ≡ one = (bytes_eq-Decides other one).0 q in
        let is : bytes_eq one other ≡ true = (bytes_eq-Decides one other).1 (sym same) in
        let no : true ≡ false = sym is ∙ h in
        absurd cc
    by false q = q

-- the name that is to come is the first one, or there further on, or new
module _ (first new : Bytes) (names : List Bytes) where
  abbrev later : List Bytes
  later = filter (other_than first) (each_once names)

  is-there : has_name (first ∷ later) new ≡ true → with_name (first ∷ later) new ≡ first ∷ later
  is-there e = ap (λ b. if b then first ∷ later else (first ∷ later) ++ new ∷ []) e

  is-new : has_name (first ∷ later) new ≡ false → with_name (first ∷ later) new ≡ first ∷ (later ++ new ∷ [])
  is-new e = ap (λ b. if b then first ∷ later else (first ∷ later) ++ new ∷ []) e

  abbrev so_far : List Bytes
  so_far = each_once (names ++ new ∷ [])

  pushed : so_far ≡ each_once names ++ new ∷ [] → filter (other_than first) so_far ≡ later ++ filter (other_than first) (new ∷ [])
  pushed more = ap (filter (other_than first)) more ∙ filter-append (other_than first) (each_once names) (new ∷ [])

  among : bytes_eq new first ≡ false → has_name (first ∷ later) new ≡ has_name (each_once names) new
  among h = ap (λ b. b || has_name later new) h ∙ has-among first new h (each_once names)

  step : (is there : Bool) → bytes_eq new first ≡ is → has_name (each_once names) new ≡ there → so_far ≡ (if there then each_once names else each_once names ++ new ∷ []) → first ∷ filter (other_than first) so_far ≡ with_name (first ∷ later) new
  step true true h k more = ap (λ (l : List Bytes). first ∷ filter (other_than first) l) more ∙ sym (is-there (ap (λ b. b || has_name later new) h))
  step true false h k more =
      let same : bytes_eq first new ≡ true = (bytes_eq-Decides first new).1 (sym ((bytes_eq-Decides new first).0 h)) in
      let none : filter (other_than first) (new ∷ []) ≡ [] = ap (λ b. cond (not b) (new ∷ []) []) same in
      let all : filter (other_than first) so_far ≡ later = pushed more ∙ ap (λ (l : List Bytes). later ++ l) none ∙ append-nil later in
      ap (λ (l : List Bytes). first ∷ l) all ∙ sym (is-there (ap (λ b. b || has_name later new) h))
  step false true h k more = ap (λ (l : List Bytes). first ∷ filter (other_than first) l) more ∙ sym (is-there (among h ∙ k))
  step false false h k more =
      let one : filter (other_than first) (new ∷ []) ≡ new ∷ [] = ap (λ b. cond (not b) (new ∷ []) []) (differs-back new first h) in
      let all : filter (other_than first) so_far ≡ later ++ new ∷ [] = pushed more ∙ ap (λ (l : List Bytes). later ++ l) one in
      ap (λ (l : List Bytes). first ∷ l) all ∙ sym (is-new (among h ∙ k))

pub once-more : (names : List Bytes) (new : Bytes) → each_once (names ++ new ∷ []) ≡ with_name (each_once names) new
once-more [] new = refl
once-more (first ∷ names) new = step first new names (bytes_eq new first) (has_name (each_once names) new) refl refl (once-more names new)
