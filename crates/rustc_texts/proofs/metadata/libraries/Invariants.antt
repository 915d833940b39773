use Rattle.std.proofs.Common.{◌≡◌, filter, take}
use Rattle.rustc_texts.specs.Outputs.{is_rlib}
use Rattle.rustc_texts.proofs.metadata.libraries.Given as goal

-- those of the names so far
abbrev pub invariant-loop-name : goal.invariant-loop-name
invariant-loop-name l = l.kept.items ≡ filter is_rlib (take l.name-index l.names)
