use Rattle.std.proofs.Common.{sym, ap, ◌∙◌}
use Rattle.cmdlines_base.specs.Table.{entry_of, may_follow}
use Rattle.cmdlines_base.proofs.NodeLemmas.{drop_whole, ended_fits}
use Rattle.cmdlines_base.proofs.table.ArgInfo.fits_after.Goals as goal

pub returns : goal.returns
returns g c =
    let e = entry_of c.args.self.now in
    let word = c.args.word.now in
    c.may_follow.ensures ∙ ap (may_follow e) (drop_whole c.args.depth word) ∙ sym (ended_fits c.args.depth word e c.requires.begins c.requires.ends)
