use Rattle.std.proofs.Common.{true, false}
use Rattle.rustkeys_base.proofs.DeciderLaws.{asks_for, first_decides, none_decides}
use Rattle.rustkeys_base.proofs.laws.first_that_decides_does.Goals as goal

pub returns-clause-item : goal.returns-clause-item
returns-clause-item c = λ dir files earlier later item cut decision nones decided. first_decides dir files earlier later item cut decision nones decided

pub returns-clause-cut_short : goal.returns-clause-cut_short
returns-clause-cut_short c = λ dir files items nones. none_decides dir files items true nones

pub returns-clause-closing : goal.returns-clause-closing
returns-clause-closing c = λ dir files items nones. none_decides dir files items false nones

pub returns-clause-asks : goal.returns-clause-asks
returns-clause-asks c = λ dir files r h. asks_for dir files r h
