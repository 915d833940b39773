-- Metadata of libraries that have `.rlib` at their ends alone.
use Rattle.std.proofs.Common.{◌≡◌, ℕ, ◌-◌, Bool, true, false, ◌||◌, List, [], ◌∷◌, ◌++◌, Some, refl, ap, sym, ◌∙◌, arith, append_assoc, append-nil, length, length-append, length-drop, drop, get_or, map, filter, fold, reverse, codes}
use Rattle.std.specs.Prelude.{nat_eq, not, cond, if◌then◌else◌}
use Rattle.std.specs.List.{AllByRecursion, IsDistinct, starts_with}
use Rattle.std.specs.Cmp.Lexicographic.{pointwise}
use Rattle.std.specs.Str.{bytes_eq}
use Rattle.std.proofs.lemmas.List.{append_cancel_right, reverse-append}
use Rattle.std.proofs.lemmas.List.Folds.{list_any-append}
use Rattle.std.proofs.lemmas.Map.Keys.{IsDistinct-head, IsDistinct-tail}
use Rattle.std.proofs.lemmas.Slice.Eq.{bytes_eq-Decides}
use Rattle.base_files.specs.Bytes.{Bytes}
use Rattle.rustc_texts.specs.Outputs.{EndsInOne, after_rlib, has_name, is_rlib, library, metadata, metadata_name, with_metadata, with_metadata_of, with_name, without_name}

-- its first `.rlib` is the one at its end
renamed-by : (b : ℕ) (stem : Bytes) (begins : Bool) → (if begins then Some (drop 5 (b ∷ library stem)) else after_rlib (library stem)) ≡ Some []
    → (EndsInOne stem → metadata_name (library stem) ≡ metadata stem)
    → (if begins then codes ".rmeta" ++ drop 5 (b ∷ library stem) else b ∷ metadata_name (library stem)) ≡ b ∷ metadata stem
renamed-by b stem true h more =
    let none : drop 5 (b ∷ library stem) ≡ [] = cc in
    let long = length-append stem (codes ".rlib") in
    let short = length-drop 5 (b ∷ library stem) in
    let nothing : length (drop 5 (b ∷ library stem)) ≡ 0 = ap length none in
    absurd (omega arith)
renamed-by b stem false h more = ap (λ (l : Bytes). b ∷ l) (more h)

renamed : (stem : Bytes) → EndsInOne stem → metadata_name (library stem) ≡ metadata stem
renamed [] h = refl
renamed (b ∷ stem) h = renamed-by b stem (starts_with nat_eq (b ∷ library stem) (codes ".rlib")) h (renamed stem)

-- libraries are known by their ends
end-of : (stem : Bytes) → drop (length stem) (library stem) ≡ codes ".rlib"
end-of [] = refl
end-of (b ∷ stem) = end-of stem

library-is : (stem : Bytes) → is_rlib (library stem) ≡ true
library-is stem =
    let long = length-append stem (codes ".rlib") in
    let place : length (library stem) - 5 ≡ length stem = omega arith in
    ap (λ n. pointwise nat_eq (codes ".rlib") (drop n (library stem))) place ∙ ap (pointwise nat_eq (codes ".rlib")) (end-of stem)

all-libraries : (stems : List Bytes) → filter is_rlib (map library stems) ≡ map library stems
all-libraries [] = refl
all-libraries (stem ∷ stems) = ap (λ b. cond b (library stem ∷ filter is_rlib (map library stems)) (filter is_rlib (map library stems))) (library-is stem) ∙ ap (λ (l : List Bytes). library stem ∷ l) (all-libraries stems)

-- no metadata is a library, and each is of one stem
apart : (one other : Bytes) → metadata one ≡ library other → ⊥
apart one other h =
    let back : reverse (codes ".rmeta") ++ reverse one ≡ reverse (codes ".rlib") ++ reverse other = sym (reverse-append one (codes ".rmeta")) ∙ ap reverse h ∙ reverse-append other (codes ".rlib") in
    absurd (let clash : 97 ≡ 98 = ap (λ (l : Bytes). get_or l 0 0) back in omega arith)

same-stem : (ending one other : Bytes) → one ++ ending ≡ other ++ ending → one ≡ other
same-stem ending one other h = append_cancel_right one other ending h

-- the test by cases
unlike : (one other : Bytes) → (one ≡ other → ⊥) → bytes_eq one other ≡ false
unlike one other differ = by (bytes_eq one other) refl
  where
    by : (b : Bool) → bytes_eq one other ≡ b → bytes_eq one other ≡ false
    by true q = absurd (differ ((bytes_eq-Decides one other).0 q))
    by false q = q

unlike-stems : (one other : Bytes) → bytes_eq one other ≡ false → one ≡ other → ⊥
unlike-stems one other h same = let is = (bytes_eq-Decides one other).1 same in let clash : true ≡ false = sym is ∙ h in absurd cc

-- whatever is not there is added, and nothing goes where it's not there
added : (names : List Bytes) (name : Bytes) → has_name names name ≡ false → with_name names name ≡ names ++ name ∷ []
added names name h = ap (λ b. if b then names else names ++ name ∷ []) h

nothing-goes : (names : List Bytes) (name : Bytes) → has_name names name ≡ false → without_name names name ≡ names
nothing-goes [] name h = refl
nothing-goes (first ∷ names) name h = by (bytes_eq name first) refl (λ k. nothing-goes names name k)
  where
    by : (b : Bool) → bytes_eq name first ≡ b → (has_name names name ≡ false → without_name names name ≡ names) → without_name (first ∷ names) name ≡ first ∷ names
    by true q more = let clash : true ≡ false = sym (ap (λ b. b || has_name names name) q) ∙ h in absurd cc
    by false q more =
        let rest : has_name names name ≡ false = sym (ap (λ b. b || has_name names name) q) ∙ h in
        ap (λ b. cond (not b) (first ∷ without_name names name) (without_name names name)) q ∙ ap (λ (l : List Bytes). first ∷ l) (more rest)

-- none of these has the name of one of the stems
abbrev NoneOf : (Bytes → Bytes) → List Bytes → List Bytes → Type 0
NoneOf name names stems = AllByRecursion (λ stem. has_name names (name stem) ≡ false) stems

pushed-none : (names : List Bytes) (new name : Bytes) → has_name names name ≡ false → bytes_eq name new ≡ false → has_name (names ++ new ∷ []) name ≡ false
pushed-none names new name h k = list_any-append (bytes_eq name) names (new ∷ []) ∙ ap (λ b. b || has_name (new ∷ []) name) h ∙ ap (λ b. b || false) k

none-more : (name : Bytes → Bytes) (new : Bytes) (names stems : List Bytes) → NoneOf name names stems → AllByRecursion (λ stem. bytes_eq (name stem) new ≡ false) stems → NoneOf name (names ++ new ∷ []) stems
none-more name new names [] h k = tt
none-more name new names (stem ∷ stems) h k = (pushed-none names new (name stem) h.0 k.0, none-more name new names stems h.1 k.1)

-- one more piece of metadata is none of later ones
later-metadata : (stem : Bytes) (stems : List Bytes) → AllByRecursion (λ other. bytes_eq stem other ≡ false) stems → AllByRecursion (λ other. bytes_eq (metadata other) (metadata stem) ≡ false) stems
later-metadata stem [] h = tt
later-metadata stem (other ∷ stems) h = (unlike _ _ (λ same. unlike-stems stem other h.0 (sym (same-stem (codes ".rmeta") other stem same))), later-metadata stem stems h.1)

-- and no library
later-library : (stem : Bytes) (stems : List Bytes) → AllByRecursion (λ other. bytes_eq (library other) (metadata stem) ≡ false) stems
later-library stem [] = tt
later-library stem (other ∷ stems) = (unlike _ _ (λ same. apart stem other (sym same)), later-library stem stems)

no-metadata : (stem : Bytes) (stems : List Bytes) → has_name (map library stems) (metadata stem) ≡ false
no-metadata stem [] = refl
no-metadata stem (other ∷ stems) = ap (λ b. b || has_name (map library stems) (metadata stem)) (unlike _ _ (apart stem other)) ∙ no-metadata stem stems

none-of-metadata : (all stems : List Bytes) → NoneOf metadata (map library all) stems
none-of-metadata all [] = tt
none-of-metadata all (stem ∷ stems) = (no-metadata stem all, none-of-metadata all stems)

-- where libraries are linked, each adds its metadata
beside : (stems names : List Bytes) → AllByRecursion EndsInOne stems → IsDistinct bytes_eq stems → NoneOf metadata names stems → fold (with_metadata_of true) names (map library stems) ≡ names ++ map metadata stems
beside [] names e d n = sym (append-nil names)
beside (stem ∷ stems) names e d n =
    let made : with_metadata_of true names (library stem) ≡ names ++ metadata stem ∷ [] = ap (with_name names) (renamed stem e.0) ∙ added names (metadata stem) n.0 in
    ap (λ (l : List Bytes). fold (with_metadata_of true) l (map library stems)) made
    ∙ beside stems (names ++ metadata stem ∷ []) e.1 (IsDistinct-tail bytes_eq stem stems d) (none-more metadata (metadata stem) names stems n.1 (later-metadata stem stems (IsDistinct-head bytes_eq stem stems d)))
    ∙ append_assoc names (metadata stem ∷ []) (map metadata stems)

-- else each goes for it
no-library : (stem : Bytes) (stems : List Bytes) → AllByRecursion (λ other. bytes_eq stem other ≡ false) stems → has_name (map library stems) (library stem) ≡ false
no-library stem [] h = refl
no-library stem (other ∷ stems) h = ap (λ b. b || has_name (map library stems) (library stem)) (unlike _ _ (λ same. unlike-stems stem other h.0 (same-stem (codes ".rlib") stem other same))) ∙ no-library stem stems h.1

goes : (stem : Bytes) (rest made : List Bytes) → EndsInOne stem → has_name (library stem ∷ rest ++ made) (metadata stem) ≡ false → has_name rest (library stem) ≡ false → has_name made (library stem) ≡ false → with_metadata_of false (library stem ∷ rest ++ made) (library stem) ≡ rest ++ (made ++ metadata stem ∷ [])
goes stem rest made e new other others =
    let all = library stem ∷ rest ++ made in
    let both : with_name all (metadata_name (library stem)) ≡ library stem ∷ (rest ++ (made ++ metadata stem ∷ [])) = ap (with_name all) (renamed stem e) ∙ added all (metadata stem) new ∙ ap (λ (l : List Bytes). library stem ∷ l) (append_assoc rest made (metadata stem ∷ [])) in
    let self : bytes_eq (library stem) (library stem) ≡ true = (bytes_eq-Decides (library stem) (library stem)).1 refl in
    let left = rest ++ (made ++ metadata stem ∷ []) in
    let none : has_name left (library stem) ≡ false = list_any-append (bytes_eq (library stem)) rest (made ++ metadata stem ∷ []) ∙ ap (λ b. b || has_name (made ++ metadata stem ∷ []) (library stem)) other ∙ pushed-none made (metadata stem) (library stem) others (unlike _ _ (λ same. apart stem stem (sym same))) in
    ap (λ (l : List Bytes). without_name l (library stem)) both
    ∙ ap (λ b. cond (not b) (library stem ∷ without_name left (library stem)) (without_name left (library stem))) self
    ∙ nothing-goes left (library stem) none

in-place : (stems made : List Bytes) → AllByRecursion EndsInOne stems → IsDistinct bytes_eq stems → NoneOf metadata made stems → NoneOf library made stems → fold (with_metadata_of false) (map library stems ++ made) (map library stems) ≡ made ++ map metadata stems
in-place [] made e d n k = sym (append-nil made)
in-place (stem ∷ stems) made e d n k =
    let new : has_name (map library (stem ∷ stems) ++ made) (metadata stem) ≡ false = list_any-append (bytes_eq (metadata stem)) (map library (stem ∷ stems)) made ∙ ap (λ b. b || has_name made (metadata stem)) (no-metadata stem (stem ∷ stems)) ∙ n.0 in
    let step = goes stem (map library stems) made e.0 new (no-library stem stems (IsDistinct-head bytes_eq stem stems d)) k.0 in
    ap (λ (l : List Bytes). fold (with_metadata_of false) l (map library stems)) step
    ∙ in-place stems (made ++ metadata stem ∷ []) e.1 (IsDistinct-tail bytes_eq stem stems d) (none-more metadata (metadata stem) made stems n.1 (later-metadata stem stems (IsDistinct-head bytes_eq stem stems d))) (none-more library (metadata stem) made stems k.1 (later-library stem stems))
    ∙ append_assoc made (metadata stem ∷ []) (map metadata stems)

none-of-nothing : (name : Bytes → Bytes) (stems : List Bytes) → NoneOf name [] stems
none-of-nothing name [] = tt
none-of-nothing name (stem ∷ stems) = (refl, none-of-nothing name stems)

module _ (emit stems : List Bytes) (writes : has_name emit (codes "metadata") ≡ true) where
  by-links : (links : Bool) → has_name emit (codes "link") ≡ links → with_metadata emit (map library stems) ≡ fold (with_metadata_of links) (map library stems) (map library stems)
  by-links links h =
      ap (λ b. if b then fold (with_metadata_of (has_name emit (codes "link"))) (map library stems) (filter is_rlib (map library stems)) else map library stems) writes
      ∙ (λ i. fold (with_metadata_of (h i)) (map library stems) (all-libraries stems i))

pub metadata-after : (emit stems : List Bytes) → has_name emit (codes "metadata") ≡ true → has_name emit (codes "link") ≡ true → AllByRecursion EndsInOne stems → IsDistinct bytes_eq stems → with_metadata emit (map library stems) ≡ map library stems ++ map metadata stems
metadata-after emit stems writes links e d = by-links emit stems writes true links ∙ beside stems (map library stems) e d (none-of-metadata stems stems)

pub metadata-in-place : (emit stems : List Bytes) → has_name emit (codes "metadata") ≡ true → has_name emit (codes "link") ≡ false → AllByRecursion EndsInOne stems → IsDistinct bytes_eq stems → with_metadata emit (map library stems) ≡ map metadata stems
metadata-in-place emit stems writes links e d =
    by-links emit stems writes false links
    ∙ ap (λ (l : List Bytes). fold (with_metadata_of false) l (map library stems)) (sym (append-nil (map library stems)))
    ∙ in-place stems [] e d (none-of-nothing metadata stems) (none-of-nothing library stems)
