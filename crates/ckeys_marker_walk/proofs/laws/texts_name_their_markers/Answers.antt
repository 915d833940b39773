use Rattle.ckeys_marker_walk.proofs.Telling.{marker_named, name_marked, names_distinct, refused_text, text_refused}
use Rattle.ckeys_marker_walk.proofs.laws.texts_name_their_markers.Goals as goal

pub returns-clause-refused : goal.returns-clause-refused
returns-clause-refused c = text_refused

pub returns-clause-refuses : goal.returns-clause-refuses
returns-clause-refuses c = refused_text

pub returns-clause-marked : goal.returns-clause-marked
returns-clause-marked c = name_marked

pub returns-clause-named : goal.returns-clause-named
returns-clause-named c = marker_named

pub returns-clause-distinct : goal.returns-clause-distinct
returns-clause-distinct c = names_distinct
