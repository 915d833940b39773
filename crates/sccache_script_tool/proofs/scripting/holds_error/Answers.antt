use Rattle.std.proofs.Common.{◌∙◌}
use Rattle.sccache_script_tool.proofs.HoldLaws.{found_in}
use Rattle.sccache_script_tool.proofs.scripting.holds_error.Goals as goal

pub returns : goal.returns
returns c = c.is_some.ensures ∙ found_in _ c.args.text.now c.find.result c.find.ensures
