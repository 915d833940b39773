-- What words become once the files that they name are opened.
use Rattle.std.specs.Prelude.{zero, suc, ◌≡◌, ◌≤◌, ℕ, List, [], ◌∷◌, length, Option, None, Some}
use Rattle.std.specs.List.{flat_map}
use Rattle.base_files.specs.Bytes.{Bytes}
use Rattle.base_files.specs.Tree.{Tree, contents_at}
use Rattle.cmdlines_response_files.specs.Closed.{without}
use Rattle.cmdlines_response_files.specs.Styles.{path_of, words_of}
use Rattle.cmdlines_response_files.specs.declared.opening.Opened.{Opened}
use Rattle.cmdlines_response_files.specs.declared.style.Style.{Style}

abbrev pub opened_with : Bytes → Option (List Bytes) → Option Opened
opened_with name None = None
opened_with name (Some words) = Some (record { name = name; words = words })

abbrev pub opened_text : Style → Bytes → Option Bytes → Option Opened
opened_text style name None = None
opened_text style name (Some text) = opened_with name (words_of style text)

abbrev pub opened_at : Style → Tree → Option Bytes → Option Opened
opened_at style closed None = None
opened_at style closed (Some name) = opened_text style name (contents_at closed name)

-- what the word opens among files that aren't open yet
abbrev pub opened_by : Style → Bytes → Tree → Bytes → Option Opened
opened_by style dir closed word = opened_at style closed (path_of style dir word)

-- A word that opens nothing stays. One that opens a file becomes what that file's words become over the other files.
abbrev pub in_place_of : (Tree → List Bytes → List Bytes) → Tree → Bytes → Option Opened → List Bytes
in_place_of expand closed word None = word ∷ []
in_place_of expand closed word (Some opened) = expand (without opened.name closed) opened.words

-- expansion, at most so many files deep
unfoldable pub expanded_deep : ℕ → Style → Bytes → Tree → List Bytes → List Bytes
expanded_deep zero style dir closed words = words
expanded_deep (suc depth) style dir closed words =
    flat_map (λ word. in_place_of (expanded_deep depth style dir) closed word (opened_by style dir closed word)) words

-- each file that opens is one less that may, so no chain is longer than there are files
unfoldable pub expanded : Style → Bytes → Tree → List Bytes → List Bytes
expanded style dir closed words = expanded_deep (length closed) style dir closed words

-- expansion is recursion over the files that aren't open yet
abbrev pub IsRecursion : Style → Bytes → Type 0
IsRecursion style dir = (closed : Tree) (words : List Bytes) →
    expanded style dir closed words ≡ flat_map (λ word. in_place_of (expanded style dir) closed word (opened_by style dir closed word)) words

-- no greater depth changes anything
abbrev pub DepthIsEnough : Style → Bytes → Type 0
DepthIsEnough style dir = (depth : ℕ) (closed : Tree) (words : List Bytes) → length closed ≤ depth → expanded_deep depth style dir closed words ≡ expanded style dir closed words
