use Rattle.cmdlines_tables.proofs.TableTests.{no_flag_shared, no_flag_of_both_signs}
use Rattle.cmdlines_tables.proofs.laws.tables_share_no_flag.Goals as goal

pub returns-clause-clang : goal.returns-clause-clang
returns-clause-clang c = no_flag_shared

pub returns-clause-msvc : goal.returns-clause-msvc
returns-clause-msvc c = no_flag_of_both_signs
