use Rattle.rustc_parts.proofs.OneOrder.{env_deps_total, env_deps_tie, pairs_total, pairs_tie}
use Rattle.rustc_parts.proofs.laws.variables_have_one_order.Goals as goal

pub returns : goal.returns
returns c = record { env_deps = env_deps_total; env_deps_tie = env_deps_tie; pairs = pairs_total; pairs_tie = pairs_tie }
