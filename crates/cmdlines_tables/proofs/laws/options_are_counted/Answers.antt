use Rattle.cmdlines_tables.proofs.TableTests.{gnu_count, clang_count, diab_count, msvc_dash_count, msvc_slash_count, tasking_vx_count}
use Rattle.cmdlines_tables.proofs.laws.options_are_counted.Goals as goal

pub returns-clause-gnu : goal.returns-clause-gnu
returns-clause-gnu c = gnu_count

pub returns-clause-clang : goal.returns-clause-clang
returns-clause-clang c = clang_count

pub returns-clause-diab : goal.returns-clause-diab
returns-clause-diab c = diab_count

pub returns-clause-msvc_dash : goal.returns-clause-msvc_dash
returns-clause-msvc_dash c = msvc_dash_count

pub returns-clause-msvc_slash : goal.returns-clause-msvc_slash
returns-clause-msvc_slash c = msvc_slash_count

pub returns-clause-tasking_vx : goal.returns-clause-tasking_vx
returns-clause-tasking_vx c = tasking_vx_count
