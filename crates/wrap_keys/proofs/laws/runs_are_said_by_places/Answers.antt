use Rattle.wrap_keys.specs.Whole.{IsAnswered}
use Rattle.wrap_keys.proofs.ByPlaces.{agree_beside, each_beside, served_beside}
use Rattle.wrap_keys.proofs.laws.runs_are_said_by_places.Goals as goal

pub returns-clause-calls : goal.returns-clause-calls
returns-clause-calls g c = served_beside

pub returns-clause-each : goal.returns-clause-each
returns-clause-each g c = λ settings begins ends results. each_beside (IsAnswered settings g.F.Files g.T.Preprocessor) begins ends results

pub returns-clause-outputs : goal.returns-clause-outputs
returns-clause-outputs g c = agree_beside
