-- What a word opens, and what words become, word by word.
use Rattle.std.proofs.Common.{◌≡◌, Bool, true, false, not, ◌&&◌, cond, ◌||◌, List, [], ◌∷◌, ◌++◌, Option, None, Some, refl, ap, sym, ◌∙◌, append-nil, append_assoc}
use Rattle.std.specs.List.{list_any}
use Rattle.std.specs.Option.{option_and_then}
use Rattle.std.specs.Str.{bytes_eq}
use Rattle.std.proofs.lemmas.List.Concat.{flat_map-cons}
use Rattle.base_files.specs.Bytes.{Bytes}
use Rattle.base_files.specs.Tree.{Tree, contents_at}
use Rattle.cmdlines_response_files.specs.Closed.{closed_in, without}
use Rattle.cmdlines_response_files.specs.Expansion.{opened_with, opened_text, opened_at, opened_by, in_place_of, expanded}
use Rattle.cmdlines_response_files.specs.Known.{arguments_at}
use Rattle.cmdlines_response_files.specs.Styles.{names_file, path_of, words_of}
use Rattle.cmdlines_response_files.specs.declared.opening.Opened.{Opened}
use Rattle.cmdlines_response_files.specs.declared.style.Style.{Style}
use Rattle.cmdlines_response_files.proofs.ClosedLaws.{closed_more, closed_same, contents_at_closed}
use Rattle.cmdlines_response_files.proofs.DepthLaws.{is_recursion}

pub opened_as : (style : Style) (dir : Bytes) (held : Bytes → Bool) (tree : Tree) (word path : Bytes) (text : Option Bytes) →
    path_of style dir word ≡ Some path → cond (held path) None (contents_at tree path) ≡ text → opened_by style dir (closed_in held tree) word ≡ opened_text style path text
opened_as style dir held tree word path text p q =
    ap (opened_at style (closed_in held tree)) p ∙ ap (opened_text style path) (contents_at_closed held path tree ∙ q)

-- a text opens what its arguments open
opened_text-arguments : (style : Style) (path : Bytes) (text : Option Bytes) → opened_text style path text ≡ opened_with path (option_and_then (words_of style) text)
opened_text-arguments style path None = refl
opened_text-arguments style path (Some text) = refl

-- a word that names a file which is open opens nothing
pub opens_none : (style : Style) (dir : Bytes) (held : Bytes → Bool) (tree : Tree) (word path : Bytes) → path_of style dir word ≡ Some path → held path ≡ true → opened_by style dir (closed_in held tree) word ≡ None
opens_none style dir held tree word path p open_already = opened_as style dir held tree word path None p (rw open_already refl)

-- a word that names another one opens its arguments
pub opens_arguments : (style : Style) (dir : Bytes) (held : Bytes → Bool) (tree : Tree) (word path : Bytes) → path_of style dir word ≡ Some path → held path ≡ false → opened_by style dir (closed_in held tree) word ≡ opened_with path (arguments_at style tree path)
opens_arguments style dir held tree word path p closed = opened_as style dir held tree word path (contents_at tree path) p (rw closed refl) ∙ opened_text-arguments style path (contents_at tree path)

module _ (style : Style) (dir : Bytes) (closed : Tree) where
  pub expanded-nil : expanded style dir closed [] ≡ []
  expanded-nil = is_recursion style dir closed []

  -- the first word, and then the others
  pub expanded-cons : (word : Bytes) (words : List Bytes) → expanded style dir closed (word ∷ words) ≡ in_place_of (expanded style dir) closed word (opened_by style dir closed word) ++ expanded style dir closed words
  expanded-cons word words =
      let piece = λ (w : Bytes). in_place_of (expanded style dir) closed w (opened_by style dir closed w) in
      is_recursion style dir closed (word ∷ words) ∙ flat_map-cons piece word words ∙ ap (λ (l : List Bytes). piece word ++ l) (sym (is_recursion style dir closed words))

  -- what one word becomes
  pub expanded-one : (word : Bytes) → expanded style dir closed (word ∷ []) ≡ in_place_of (expanded style dir) closed word (opened_by style dir closed word)
  expanded-one word =
      let piece = in_place_of (expanded style dir) closed word (opened_by style dir closed word) in
      expanded-cons word [] ∙ ap (λ (l : List Bytes). piece ++ l) expanded-nil ∙ append-nil piece

  -- a word that opens nothing stays
  pub kept_word : (word : Bytes) (words out : List Bytes) → opened_by style dir closed word ≡ None → (out ++ word ∷ []) ++ expanded style dir closed words ≡ out ++ expanded style dir closed (word ∷ words)
  kept_word word words out h =
      append_assoc out (word ∷ []) (expanded style dir closed words)
      ∙ ap (λ (l : List Bytes). out ++ l) (ap (λ (o : Option Opened). in_place_of (expanded style dir) closed word o ++ expanded style dir closed words) (sym h) ∙ sym (expanded-cons word words))

  -- a word that opens a file becomes what the file's words become
  pub opened_word : (word : Bytes) (words out : List Bytes) (opened : Opened) → opened_by style dir closed word ≡ Some opened
      → (out ++ expanded style dir (without opened.name closed) opened.words) ++ expanded style dir closed words ≡ out ++ expanded style dir closed (word ∷ words)
  opened_word word words out opened h =
      append_assoc out _ (expanded style dir closed words)
      ∙ ap (λ (l : List Bytes). out ++ l) (ap (λ (o : Option Opened). in_place_of (expanded style dir) closed word o ++ expanded style dir closed words) (sym h) ∙ sym (expanded-cons word words))

-- the files that are left once one more is open
pub closed_below : (held more : Bytes → Bool) (name : Bytes) (tree : Tree) → ((other : Bytes) → more other ≡ (bytes_eq name other || held other)) → closed_in more tree ≡ without name (closed_in held tree)
closed_below held more name tree same = closed_same more (λ other. bytes_eq name other || held other) same tree ∙ closed_more held name tree

-- a file that opens wasn't open
pub not_open : (style : Style) (dir : Bytes) (held : Bytes → Bool) (tree : Tree) (word : Bytes) (opened : Opened) → opened_by style dir (closed_in held tree) word ≡ Some opened → held opened.name ≡ false
not_open style dir held tree word opened h = by_path (path_of style dir word) h
  where
    by_path : (o : Option Bytes) → opened_at style (closed_in held tree) o ≡ Some opened → held opened.name ≡ false
    by_path None e = cc
    by_path (Some name) e = by_held (held name) refl e
      where
        by_held : (b : Bool) → held name ≡ b → opened_at style (closed_in held tree) (Some name) ≡ Some opened → held opened.name ≡ false
        by_held true p k =
            let nothing : contents_at (closed_in held tree) name ≡ None = contents_at_closed held name tree ∙ rw p refl in
            let clash : None ≡ Some opened = sym (ap (opened_text style name) nothing) ∙ k in cc
        by_held false p k = by_text (contents_at (closed_in held tree) name) k
          where
            by_text : (text : Option Bytes) → opened_text style name text ≡ Some opened → held opened.name ≡ false
            by_text None k = cc
            by_text (Some text) k = by_words (words_of style text) k
              where
                by_words : (ws : Option (List Bytes)) → opened_with name ws ≡ Some opened → held opened.name ≡ false
                by_words None k = cc
                by_words (Some words) k =
                    let whole : record { name = name; words = words } ≡ opened = cc in
                    ap held (sym (ap (λ (o : Opened). o.name) whole)) ∙ p

-- a name that is opened and closed again is as it was
pub closed_again : (a b : Bool) → (a ≡ true → b ≡ false) → (not a && (a || b)) ≡ b
closed_again true b h = sym (h refl)
closed_again false b h = refl

no_path : (style : Style) (dir word : Bytes) → names_file style word ≡ false → path_of style dir word ≡ None
no_path style dir word h = rw h refl

-- words of which none names a response file stay
pub words_stay : (style : Style) (dir : Bytes) (files : Tree) (words : List Bytes) → list_any (names_file style) words ≡ false → expanded style dir files words ≡ words
words_stay style dir files [] h = expanded-nil style dir files
words_stay style dir files (word ∷ words) h = by (names_file style word) refl h (λ rest. words_stay style dir files words rest)
  where
    by : (named : Bool) → names_file style word ≡ named → (named || list_any (names_file style) words) ≡ false → (list_any (names_file style) words ≡ false → expanded style dir files words ≡ words) → expanded style dir files (word ∷ words) ≡ word ∷ words
    by true p q rest = cc
    by false p q rest =
        expanded-cons style dir files word words
        ∙ ap (λ (o : Option Opened). in_place_of (expanded style dir) files word o ++ expanded style dir files words) (ap (opened_at style files) (no_path style dir word p))
        ∙ ap (λ (l : List Bytes). word ∷ l) (rest q)
