use Rattle.std.proofs.lemmas.Slice.Eq.{strip_prefix_is}
use Rattle.std.proofs.lemmas.Bool.Decides.{Decides-eqb}
use Rattle.cmdlines_base.proofs.TableLemmas.{after_is}
use Rattle.cmdlines_base.proofs.table.after.Goals as goal

pub returns : goal.returns
returns c =
    let flag = c.args.flag.now in
    let word = c.args.word.now in
    after_is flag word _ (strip_prefix_is Decides-eqb word flag _ c.strip_prefix.ensures.cases)
