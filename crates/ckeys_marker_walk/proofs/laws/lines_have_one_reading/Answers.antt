use Rattle.ckeys_marker_walk.proofs.Meaning.{meant-spelled}
use Rattle.ckeys_marker_walk.proofs.Readings.{one_name}
use Rattle.ckeys_marker_walk.proofs.Telling.{says_found, says_once}
use Rattle.ckeys_marker_walk.proofs.laws.lines_have_one_reading.Goals as goal

pub returns-clause-found : goal.returns-clause-found
returns-clause-found c = says_found

pub returns-clause-one : goal.returns-clause-one
returns-clause-one c = says_once

pub returns-clause-name : goal.returns-clause-name
returns-clause-name c = one_name

pub returns-clause-meant : goal.returns-clause-meant
returns-clause-meant c = meant-spelled
