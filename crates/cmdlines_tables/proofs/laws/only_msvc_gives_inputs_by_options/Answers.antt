use Rattle.cmdlines_tables.proofs.TableTests.{msvc_alone_gives}
use Rattle.cmdlines_tables.proofs.laws.only_msvc_gives_inputs_by_options.Goals as goal

pub returns : goal.returns
returns c = msvc_alone_gives
