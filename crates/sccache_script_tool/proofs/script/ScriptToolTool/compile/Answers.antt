use Rattle.std.proofs.Common.{Option, ◌∙◌, ap}
use Rattle.base_files.specs.Bytes.{Bytes}
use Rattle.ckeys_records.specs.Folders.{Settings}
use Rattle.ckeys_records.specs.Meaning.{names_of}
use Rattle.sccache_script_tool.specs.Scripted.{compiled, without}
use Rattle.sccache_script_tool.specs.ScriptedCrates.{compiled_crate}
use Rattle.sccache_script_tool.proofs.script.ScriptToolTool.compile.Goals as goal

pub returns-in_ok-compiled-in-Some-clause-answer : goal.returns-in_ok-compiled-in-Some-clause-answer
returns-in_ok-compiled-in-Some-clause-answer g c =
    let names = names_of c.args.outputs.now in
    let folders = c.basedirs-folders.ensures ∙ ap (λ (s : Settings). s.basedirs) c.text.ensures.config in
    rw c.in-Some.is (c.in_ok-compiled-in-Some.ensures
    ∙ ap (λ list. compiled (without list c.in_ok-text-in-Some.text) names) folders
    ∙ ap (λ text. compiled (without c.args.self.now.config.basedirs text) names) (c.in_ok-text-in-Some.ensures.text c.args._moment))

pub returns-in_ok-compiled_crate-in-Ok-clause-answer : goal.returns-in_ok-compiled_crate-in-Ok-clause-answer
returns-in_ok-compiled_crate-in-Ok-clause-answer g c =
    rw c.in-None.is (c.in_ok-compiled_crate-in-Ok.ensures
    ∙ ap (λ (text : Option Bytes). compiled_crate text (names_of c.args.outputs.now)) (c.in-Ok.ensures.text c.args._moment))
