use Rattle.wrap.proofs.laws.dep_info_is_answered_where_emitted.Goals as goal

pub returns : goal.returns
returns c = c.dep_info_is_told_where_emitted.ensures
