use Rattle.std.proofs.Common.{rules}
use Rattle.cmdlines.proofs.closing.with_language.Goals as goal

pub returns : goal.returns
returns c =
    let known = c.requires.language c.the_input-input.result c.the_input-input.ensures in
    search rules
