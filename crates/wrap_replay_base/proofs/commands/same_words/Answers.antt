use Rattle.std.proofs.Common.{sym, ◌∙◌}
use Rattle.wrap_replay_base.proofs.AskedAlike.{words_alike, words_are}
use Rattle.wrap_replay_base.proofs.commands.same_words.Goals as goal

pub returns-clause-same : goal.returns-clause-same
returns-clause-same c same = words_are c.args.words.now c.args.other.now (sym c.eq.ensures ∙ same)

pub returns-clause-own : goal.returns-clause-own
returns-clause-own c alike = c.eq.ensures ∙ words_alike c.args.words.now c.args.other.now alike
