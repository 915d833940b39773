use Rattle.cmdlines_tables.proofs.TableTests.{named_apart}
use Rattle.cmdlines_tables.proofs.laws.names_tell_kinds.Goals as goal

pub returns : goal.returns
returns c = named_apart
