use Rattle.std.proofs.Common.{refl}
use Rattle.wrap_replay.proofs.laws.tokens_stand_for_contents.Goals as goal

pub returns-clause-recorded : goal.returns-clause-recorded
returns-clause-recorded c decode text outputs executable request tree world gives = record { printed = gives.printed; made = gives.made }

pub returns-clause-outcomes : goal.returns-clause-outcomes
returns-clause-outcomes c decode world step asked names scene = refl
