-- What a compile leaves.
use Rattle.std.specs.Prelude.{List}
use Rattle.base_files.specs.Bytes.{Bytes}
use Rattle.cmdlines_base.specs.declared.command.ArtifactDescriptor.{ArtifactDescriptor}

-- outputs with where they go, in the order of their names
abbrev pub Artifacts : Type 0
Artifacts = List (Bytes × ArtifactDescriptor)
