use Rattle.ckeys_marker_walk.proofs.Once.{all_chosen, all_distinct, all_kept_once}
use Rattle.ckeys_marker_walk.proofs.laws.names_are_given_once.Goals as goal

pub returns-clause-distinct : goal.returns-clause-distinct
returns-clause-distinct c = all_distinct

pub returns-clause-kept : goal.returns-clause-kept
returns-clause-kept c = all_kept_once

pub returns-clause-chosen : goal.returns-clause-chosen
returns-clause-chosen c = all_chosen
