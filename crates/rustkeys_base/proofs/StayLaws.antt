-- Words that name no response file, and one word more.
use Rattle.std.proofs.Common.{◌≡◌, ◌||◌, ℕ, ◌<◌, ◌+◌, Bool, true, false, List, [], ◌∷◌, ◌++◌, length, take, get_or, append-nil, refl, sym, ap, ◌∙◌}
use Rattle.std.specs.List.{flat_map}
use Rattle.std.proofs.lemmas.Grind.{flat_map-append}
use Rattle.std.proofs.lemmas.List.{take_more}
use Rattle.std.proofs.lemmas.List.Concat.{flat_map-cons}
use Rattle.std.specs.List.{list_any}
use Rattle.base_files.specs.Bytes.{Bytes}
use Rattle.base_files.specs.Tree.{Tree}
use Rattle.rustkeys_base.specs.Expansion.{expanded_by_rustc, in_place_of, names_file}

stays : (dir : Bytes) (tree : Tree) (word : Bytes) → names_file word ≡ false → in_place_of dir tree word ≡ word ∷ []
stays dir tree word h = rw h refl

pub others_stay : (dir : Bytes) (tree : Tree) (words : List Bytes) → list_any names_file words ≡ false → expanded_by_rustc dir tree words ≡ words
others_stay dir tree [] h = refl
others_stay dir tree (word ∷ words) h = by (names_file word) refl h (λ rest. others_stay dir tree words rest)
  where
    by : (named : Bool) → names_file word ≡ named → (named || list_any names_file words) ≡ false → (list_any names_file words ≡ false → expanded_by_rustc dir tree words ≡ words) → expanded_by_rustc dir tree (word ∷ words) ≡ word ∷ words
    by true p q rest = cc
    by false p q rest = rw (stays dir tree word p, rest q) refl

-- what the words so far become, and what the next one does
pub expanded_more : (dir : Bytes) (tree : Tree) (words : List Bytes) (i : ℕ) (word : Bytes) → i < length words → word ≡ get_or words i word → expanded_by_rustc dir tree (take (i + 1) words) ≡ expanded_by_rustc dir tree (take i words) ++ in_place_of dir tree word
expanded_more dir tree words i word lt is =
    let piece = in_place_of dir tree in
    ap (flat_map piece) (take_more words i word lt ∙ ap (λ (w : Bytes). take i words ++ w ∷ []) (sym is))
    ∙ flat_map-append piece (take i words) (word ∷ [])
    ∙ ap (λ (l : List Bytes). flat_map piece (take i words) ++ l) (flat_map-cons piece word [] ∙ append-nil (piece word))
