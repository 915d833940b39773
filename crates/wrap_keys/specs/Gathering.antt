-- What a compile with status 0 gives, said of all outputs at once.
use Rattle.std.specs.Prelude.{Bool, ◌&&◌, not, List, ◌++◌, length, replicate, Option, None, Some, is_none}
use Rattle.std.specs.List.{filter_map, find, zip}
use Rattle.std.specs.Option.{option_map}
use Rattle.base_files.specs.Bytes.{Bytes}
use Rattle.ckeys_records.specs.declared.output_name.OutputName.{OutputName}
use Rattle.wrap_keys.specs.Account.{Collected, all, missing}

-- an output that was asked for, and its contents, where it was made
abbrev pub Outcome : Type 0
Outcome = OutputName × Option Bytes

-- Each output beside the file of its place. After the last file none was made.
abbrev pub outcomes_of : List OutputName → List (Option Bytes) → List Outcome
outcomes_of names files = zip names (files ++ replicate (length names) None)

-- it wasn't made, and may not be left out
abbrev pub is_missed : Outcome → Bool
is_missed made = is_none made.1 && not made.0.optional

-- its name and contents, where it was made
abbrev pub pair_of : Outcome → Option (Bytes × Bytes)
pair_of made = option_map (λ contents. (made.0.name, contents)) made.1

-- the first one that was missed, if one was; else all that were made
abbrev pub unless_missed : Option Outcome → List Outcome → Collected
unless_missed (Some made) outputs = missing made.0.name
unless_missed None outputs = all (filter_map pair_of outputs)

abbrev pub gives : List OutputName → List (Option Bytes) → Collected
gives names files = unless_missed (find is_missed (outcomes_of names files)) (outcomes_of names files)
