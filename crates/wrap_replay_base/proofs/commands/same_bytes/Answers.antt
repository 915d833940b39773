use Rattle.std.proofs.Common.{sym, ◌∙◌}
use Rattle.wrap_replay_base.proofs.AskedAlike.{bytes_alike, bytes_is}
use Rattle.wrap_replay_base.proofs.commands.same_bytes.Goals as goal

pub returns-clause-same : goal.returns-clause-same
returns-clause-same c same = bytes_is c.args.bytes.now c.args.other.now (sym c.eq.ensures ∙ same)

pub returns-clause-own : goal.returns-clause-own
returns-clause-own c alike = c.eq.ensures ∙ bytes_alike c.args.bytes.now c.args.other.now alike
