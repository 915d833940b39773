-- What printers of arguments have yet to give.
use Rattle.std.specs.Prelude.{◌≡◌, List, [], ◌∷◌, map, Option, None, Some, Result, Ok, Err}
use Rattle.base_files.specs.Bytes.{Bytes}
use Rattle.cmdlines_base.specs.Pieces.{Part, part_word, parts_left}
use Rattle.cmdlines_base.specs.declared.printing.Iter.{Iter}
use Rattle.cmdlines_base.specs.declared.printing.IterStrings.{IterStrings}

-- the words that are left, by the words of values
abbrev pub words_left : {T : Type 0} → (T → Bytes) → Iter T → List Bytes
words_left word it = map (part_word word) (parts_left it.pieces)

-- What one call of `next` does: it gives the first word that is left; after an error nothing is left.
abbrev pub GivesWord : {E : Type 0} → List Bytes → Option (Result Bytes E) → List Bytes → Type 0
GivesWord old None new = (old ≡ []) × (new ≡ [])
GivesWord old (Some (Ok given)) new = old ≡ given ∷ new
GivesWord old (Some (Err error)) new = (given : Bytes) × (rest : List Bytes) × (old ≡ given ∷ rest) × (new ≡ [])

-- the parts whose texts are left
abbrev pub texts_left : {T F : Type 0} → IterStrings T F → List (Part T)
texts_left it = parts_left it.pieces

-- the closure that is kept
abbrev pub transformer_in : {T F : Type 0} → IterStrings T F → F
transformer_in it = it.path_transformer
