use Rattle.std.proofs.Common.{◌∙◌, ap}
use Rattle.sccache_script_tool.specs.Scripted.{printed}
use Rattle.sccache_script_tool.proofs.script.ScriptToolPreprocessor.preprocess.Goals as goal

pub returns-clause-answer : goal.returns-clause-answer
returns-clause-answer g c = c.printed.ensures ∙ ap printed (c.in_ok-text.ensures.text c.args._moment)
