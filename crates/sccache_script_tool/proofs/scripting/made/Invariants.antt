use Rattle.std.proofs.Common.{◌≡◌, take, map, Some}
use Rattle.ckeys_records.specs.Meaning.{names_of}
use Rattle.sccache_script_tool.proofs.scripting.made.Given as goal

abbrev pub invariant-loop-output : goal.invariant-loop-output
invariant-loop-output l = l.files.items ≡ map (λ output. Some l.text) (names_of (take l._output-index l.outputs))
