-- Expansion ends by itself: more depth than there are files changes nothing.
use Rattle.std.proofs.Common.{◌≡◌, ℕ, zero, suc, ◌<◌, ◌≤◌, List, [], ◌∷◌, Option, None, Some, length, refl, ap, sym, ◌∙◌, arith}
use Rattle.std.specs.List.{flat_map}
use Rattle.std.proofs.lemmas.List.Concat.{flat_map-cons}
use Rattle.base_files.specs.Bytes.{Bytes}
use Rattle.base_files.specs.Tree.{Node, Tree, contents_at, node_at}
use Rattle.cmdlines_response_files.specs.Closed.{without}
use Rattle.cmdlines_response_files.specs.Expansion.{opened_with, opened_text, opened_at, opened_by, in_place_of, expanded_deep, expanded, IsRecursion, DepthIsEnough}
use Rattle.cmdlines_response_files.specs.Styles.{path_of, words_of}
use Rattle.cmdlines_response_files.specs.declared.opening.Opened.{Opened}
use Rattle.cmdlines_response_files.specs.declared.style.Style.{Style}
use Rattle.cmdlines_response_files.proofs.ClosedLaws.{without_lt}

-- equal pieces make equal wholes
flat_map-same : {X A : Type 0} (f g : X → List A) → ((x : X) → f x ≡ g x) → (xs : List X) → flat_map f xs ≡ flat_map g xs
flat_map-same f g h [] = refl
flat_map-same f g h (x ∷ xs) = rw (flat_map-cons f x xs, flat_map-cons g x xs, h x, flat_map-same f g h xs) refl

flat_map-alone : {X : Type 0} (xs : List X) → flat_map (λ x. x ∷ []) xs ≡ xs
flat_map-alone {X} [] = refl
flat_map-alone {X} (x ∷ xs) = rw (flat_map-cons (λ (y : X). y ∷ []) x xs, flat_map-alone xs) refl

-- nothing opens where there is nothing
opens_nothing : (style : Style) (o : Option Bytes) → opened_at style [] o ≡ None
opens_nothing style None = refl
opens_nothing style (Some name) = refl

-- what has contents is there
there : (tree : Tree) (name text : Bytes) → contents_at tree name ≡ Some text → length (without name tree) < length tree
there tree name text h = by (node_at tree name) refl
  where
    by : (found : Option Node) → node_at tree name ≡ found → length (without name tree) < length tree
    by None e = let none : contents_at tree name ≡ None = rw e refl in let clash : None ≡ Some text = sym none ∙ h in cc
    by (Some node) e = without_lt name node tree e

-- what opens is there
pub opens_less : (style : Style) (closed : Tree) (o : Option Bytes) (opened : Opened) → opened_at style closed o ≡ Some opened → length (without opened.name closed) < length closed
opens_less style closed None opened h = cc
opens_less style closed (Some name) opened h = by (contents_at closed name) refl h
  where
    by : (found : Option Bytes) → contents_at closed name ≡ found → opened_text style name found ≡ Some opened → length (without opened.name closed) < length closed
    by None e k = cc
    by (Some text) e k = by_words (words_of style text) k
      where
        by_words : (ws : Option (List Bytes)) → opened_with name ws ≡ Some opened → length (without opened.name closed) < length closed
        by_words None k = cc
        by_words (Some words) k =
            let whole : record { name = name; words = words } ≡ opened = cc in
            let same : name ≡ opened.name = ap (λ (o : Opened). o.name) whole in
            rw (← same) (there closed name text e)

-- where nothing is, words stay
deep_nothing : (style : Style) (dir : Bytes) (n : ℕ) (words : List Bytes) → expanded_deep n style dir [] words ≡ words
unfolding expanded_deep
deep_nothing style dir zero words = refl
deep_nothing style dir (suc n) words =
    flat_map-same _ (λ word. word ∷ []) (λ word. ap (in_place_of (expanded_deep n style dir) [] word) (opens_nothing style (path_of style dir word))) words
    ∙ flat_map-alone words

-- two ways that agree on fewer files agree on what a word becomes
same_piece : (style : Style) (dir : Bytes) (f g : Tree → List Bytes → List Bytes) (closed : Tree) →
    ((fewer : Tree) → length fewer < length closed → (words : List Bytes) → f fewer words ≡ g fewer words) →
    (word : Bytes) (o : Option Opened) → opened_by style dir closed word ≡ o → in_place_of f closed word o ≡ in_place_of g closed word o
same_piece style dir f g closed h word None e = refl
same_piece style dir f g closed h word (Some opened) e = h (without opened.name closed) (opens_less style closed (path_of style dir word) opened e) opened.words

-- two depths that are enough give the same
same_deep : (style : Style) (dir : Bytes) (m n : ℕ) (closed : Tree) → length closed ≤ m → length closed ≤ n → (words : List Bytes) → expanded_deep m style dir closed words ≡ expanded_deep n style dir closed words
unfolding expanded_deep
same_deep style dir zero n [] p q words = sym (deep_nothing style dir n words)
same_deep style dir zero n (node ∷ closed) p q words = absurd (omega arith)
same_deep style dir (suc m) zero [] p q words = deep_nothing style dir (suc m) words
same_deep style dir (suc m) zero (node ∷ closed) p q words = absurd (omega arith)
same_deep style dir (suc m) (suc n) closed p q words =
    flat_map-same _ _ (λ word. same_piece style dir (expanded_deep m style dir) (expanded_deep n style dir) closed
    (λ fewer less ws. same_deep style dir m n fewer (omega arith) (omega arith) ws) word (opened_by style dir closed word) refl) words

pub depth_is_enough : (style : Style) (dir : Bytes) → DepthIsEnough style dir
unfolding expanded
depth_is_enough style dir depth closed words h = same_deep style dir depth (length closed) closed h (omega arith) words

one_more : (style : Style) (dir : Bytes) (depth : ℕ) (closed : Tree) (words : List Bytes) →
    expanded_deep (suc depth) style dir closed words ≡ flat_map (λ word. in_place_of (expanded_deep depth style dir) closed word (opened_by style dir closed word)) words
unfolding expanded_deep
one_more style dir depth closed words = refl

pub is_recursion : (style : Style) (dir : Bytes) → IsRecursion style dir
unfolding expanded
is_recursion style dir closed words =
    same_deep style dir (length closed) (suc (length closed)) closed (omega arith) (omega arith) words
    ∙ one_more style dir (length closed) closed words
    ∙ flat_map-same _ _ (λ word. same_piece style dir (expanded_deep (length closed) style dir) (expanded style dir) closed
    (λ fewer less ws. same_deep style dir (length closed) (length fewer) fewer (omega arith) (omega arith) ws) word (opened_by style dir closed word) refl) words
