use Rattle.sccache_script_tool.proofs.LineLaws.{ahead_of_is}
use Rattle.sccache_script_tool.proofs.lines.ahead_of.Goals as goal

pub returns : goal.returns
returns c = ahead_of_is c.args.ending.now c.args.text.now c.strip_suffix.result c.strip_suffix.ensures.cases
