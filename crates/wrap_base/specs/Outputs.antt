-- Outputs as a store keeps them.
use Rattle.base_files.specs.Bytes.{Bytes}
use Rattle.wrap_base.specs.declared.answer.Output.{Output}

-- the name and the contents of an output
abbrev pub pair_of : Output → Bytes × Bytes
pair_of o = (o.name, o.contents)
