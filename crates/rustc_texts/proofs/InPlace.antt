-- A library goes, and its metadata stays where it's none of the libraries from there on.
use Rattle.std.proofs.Common.{◌≡◌, Bool, true, false, ◌||◌, ◌&&◌, List, [], ◌∷◌, ◌++◌, append-nil, refl, ap, sym, ◌∙◌, filter}
use Rattle.std.specs.Prelude.{cond, not, if◌then◌else◌}
use Rattle.std.specs.Str.{bytes_eq}
use Rattle.std.proofs.lemmas.List.Elements.{filter-append}
use Rattle.std.proofs.lemmas.Slice.Eq.{bytes_eq-Decides}
use Rattle.base_files.specs.Bytes.{Bytes}
use Rattle.rustc_texts.specs.Outputs.{has_name, with_name, without_name}
use Rattle.rustc_texts.specs.Places.{is_none_of}
use Rattle.rustc_texts.proofs.EachOnce.{differs-back}

-- equality goes both ways
both-ways : (one other : Bytes) → bytes_eq one other ≡ bytes_eq other one
both-ways one other = by (bytes_eq one other) refl
  where
    by : (b : Bool) → bytes_eq one other ≡ b → b ≡ bytes_eq other one
    by true h = sym ((bytes_eq-Decides other one).1 (sym ((bytes_eq-Decides one other).0 h)))
    by false h = sym (differs-back one other h)

-- what is left without one name and without others
pub less-more : (library : Bytes) (later names : List Bytes) → filter (is_none_of later) (without_name names library) ≡ filter (is_none_of (library ∷ later)) names
less-more library later [] = refl
less-more library later (name ∷ names) = by (bytes_eq library name) refl (less-more library later names)
  where
    rest : List Bytes
    rest = filter (is_none_of (library ∷ later)) names

    by : (same : Bool) → bytes_eq library name ≡ same → filter (is_none_of later) (without_name names library) ≡ rest → filter (is_none_of later) (cond (not same) (name ∷ without_name names library) (without_name names library)) ≡ filter (is_none_of (library ∷ later)) (name ∷ names)
    by true h more =
        more ∙ ap (λ b. cond (not (b || has_name later name)) (name ∷ rest) rest) (sym (sym (both-ways library name) ∙ h))
    by false h more =
        ap (λ (l : List Bytes). cond (is_none_of later name) (name ∷ l) l) more
        ∙ ap (λ b. cond (not (b || has_name later name)) (name ∷ rest) rest) (sym (sym (both-ways library name) ∙ h))

module _ (library name : Bytes) (later names : List Bytes) where
  abbrev kept : List Bytes
  kept = filter (is_none_of (library ∷ later)) names

  -- where the metadata is there, it isn't added again
  there : has_name names name ≡ true → filter (is_none_of later) (without_name (with_name names name) library) ≡ kept
  there h = less-more library later (with_name names name) ∙ ap (λ b. filter (is_none_of (library ∷ later)) (if b then names else names ++ name ∷ [])) h

  -- where it's new, it stays unless it is a library from there on
  new : (stands : Bool) → has_name names name ≡ false → has_name (library ∷ later) name ≡ stands → filter (is_none_of later) (without_name (with_name names name) library) ≡ kept ++ cond (not stands) (name ∷ []) []
  new stands h k =
      less-more library later (with_name names name)
      ∙ ap (λ b. filter (is_none_of (library ∷ later)) (if b then names else names ++ name ∷ [])) h
      ∙ filter-append (is_none_of (library ∷ later)) names (name ∷ [])
      ∙ ap (λ b. kept ++ cond (not b) (name ∷ []) []) k

  -- so a loop that keeps the others goes on
  pub stays : (made : List Bytes) → made ≡ kept → (is_new stands : Bool) → is_new ≡ not (has_name names name) → stands ≡ has_name (library ∷ later) name → (if is_new && not stands then made ++ name ∷ [] else made) ≡ filter (is_none_of later) (without_name (with_name names name) library)
  stays made m is_new stands n s = by (has_name names name) refl is_new stands n s
    where
      by : (has : Bool) → has_name names name ≡ has → (is_new stands : Bool) → is_new ≡ not has → stands ≡ has_name (library ∷ later) name → (if is_new && not stands then made ++ name ∷ [] else made) ≡ filter (is_none_of later) (without_name (with_name names name) library)
      by true h true stands n s = let clash : true ≡ false = n in absurd cc
      by true h false stands n s = m ∙ sym (there h)
      by false h false stands n s = let clash : false ≡ true = n in absurd cc
      by false h true true n s = m ∙ sym (append-nil kept) ∙ sym (new true h (sym s))
      by false h true false n s = ap (λ (l : List Bytes). l ++ name ∷ []) m ∙ sym (new false h (sym s))

-- none of no names is every name
pub all-stay : (names : List Bytes) → filter (is_none_of []) names ≡ names
all-stay [] = refl
all-stay (name ∷ names) = ap (λ (l : List Bytes). name ∷ l) (all-stay names)
