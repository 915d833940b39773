-- Lists of parts, each part after its length in eight bytes.
use Rattle.std.specs.Prelude.{Bool, true, false, List, [], ◌∷◌, map}
use Rattle.std.specs.List.{AllByRecursion}
use Rattle.base_files.specs.Bytes.{Bytes}
use Rattle.cmdlines_base.specs.declared.command.ArtifactDescriptor.{ArtifactDescriptor}
use Rattle.base_formats.specs.Spelling.{FitsFrame}

-- names with what each is paired with: variables with their values, outputs with their paths
abbrev pub Pairs : Type 0
Pairs = List (Bytes × Bytes)

-- each name, and then what it is paired with
abbrev pub pair_parts : Pairs → List Bytes
pair_parts [] = []
pair_parts (pair ∷ pairs) = pair.0 ∷ pair.1 ∷ pair_parts pairs

-- an output with its path, without its mark
abbrev pub path_at : Bytes × ArtifactDescriptor → Bytes × Bytes
path_at output = (output.0, output.1.path)

abbrev pub paths_of : List (Bytes × ArtifactDescriptor) → Pairs
paths_of outputs = map path_at outputs

-- one byte for a truth value
abbrev pub flag : Bool → Bytes
flag true = 1 ∷ []
flag false = 0 ∷ []

-- each length fits eight bytes
abbrev pub FitFrames : List Bytes → Type 0
FitFrames parts = AllByRecursion FitsFrame parts
