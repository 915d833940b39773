use Rattle.rustc_texts.proofs.WordLaws.{compile-opens-none, dep_info-opens-none, file_names-open-none}
use Rattle.rustc_texts.proofs.laws.commands_open_nothing.Goals as goal

pub returns : goal.returns
returns c = record { compile = compile-opens-none; dep_info = dep_info-opens-none; file_names = file_names-open-none }
