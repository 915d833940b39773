use Rattle.std.proofs.Common.{◌≡◌, take}
use Rattle.ckeys_records.specs.Meaning.{names_of}
use Rattle.sccache_script_tool.specs.ScriptedCrates.{made_of_text}
use Rattle.sccache_script_tool.proofs.crates.made.Given as goal

abbrev pub invariant-loop-output : goal.invariant-loop-output
invariant-loop-output l = l.files.items ≡ made_of_text l.text (names_of (take l.output-index l.outputs))
