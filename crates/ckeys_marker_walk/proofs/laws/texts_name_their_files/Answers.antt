use Rattle.ckeys_marker_walk.proofs.Appearing.{as_they_appear, each_named, no_two, on_refused, refused_on}
use Rattle.ckeys_marker_walk.proofs.laws.texts_name_their_files.Goals as goal

pub returns-clause-refused : goal.returns-clause-refused
returns-clause-refused c = λ dir files input text. (refused_on dir files input text, on_refused dir files input text)

pub returns-clause-named : goal.returns-clause-named
returns-clause-named c = each_named

pub returns-clause-distinct : goal.returns-clause-distinct
returns-clause-distinct c = no_two

pub returns-clause-order : goal.returns-clause-order
returns-clause-order c = as_they_appear
