-- Arguments that are gathered from what lies between separators.
use Rattle.std.specs.Prelude.{List, [], ◌∷◌, ◌++◌, Option, None, Some, unwrap_or}
use Rattle.std.specs.Option.{option_to_list}
use Rattle.base_files.specs.Bytes.{Bytes}

-- what a part of a text adds to an argument, perhaps nothing; None separates
abbrev pub Mark : Type 0
Mark = Option Bytes

-- The arguments of marks, where one has begun or none has. A part that adds no byte begins one too.
abbrev pub gathered : Option Bytes → List Mark → List Bytes
gathered begun [] = option_to_list begun
gathered begun (None ∷ marks) = option_to_list begun ++ gathered None marks
gathered begun (Some bytes ∷ marks) = gathered (Some (unwrap_or begun [] ++ bytes)) marks
