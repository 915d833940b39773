-- Words that come one after another, or the fault that comes in their place.
use Rattle.std.specs.Prelude.{◌≡◌, ◌⊎◌, List, [], ◌∷◌, ◌++◌, map, Option, None, Some, Result, Ok, Err}
use Rattle.std.specs.Option.{option_map, option_to_list}
use Rattle.std.specs.Vec.Iter.{into_iter_items}
use Rattle.base_files.specs.Bytes.{Bytes}
use Rattle.cmdlines_response_files.specs.Causes.{CauseOf}
use Rattle.cmdlines_response_files.specs.declared.fault.ParseFault.{ParseFault}
use Rattle.cmdlines_response_files.specs.declared.words.ExpandedWords.{ExpandedWords}

-- what is still to come
abbrev pub Items : Type 0
Items = List (Result Bytes ParseFault)

abbrev pub items_left : {S : Type 0} → ExpandedWords S → Items
items_left s = map Ok (into_iter_items s.words) ++ option_to_list (option_map Err s.fault)

-- what comes are these words, or one fault with its cause
abbrev pub Gives : Items → List Bytes → (Bytes → Type 0) → Type 0
Gives items words on_file = (items ≡ map Ok words) ⊎ ((fault : ParseFault) × (items ≡ Err fault ∷ []) × CauseOf on_file fault)

-- the first item is taken
abbrev pub Takes : Items → Option (Result Bytes ParseFault) → Items → Type 0
Takes old None new = (old ≡ []) × (new ≡ [])
Takes old (Some item) new = old ≡ item ∷ new
