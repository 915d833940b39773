use Rattle.cmdlines.specs.Commands.{output_path}
use Rattle.cmdlines.proofs.CommandLemmas.{compile_again, preprocess_again}
use Rattle.cmdlines.proofs.laws.commands_read_as_wanted.Goals as goal

pub returns-clause-compile : goal.returns-clause-compile
returns-clause-compile c = λ kind p words asks_this full safe.
    compile_again c.words_have_one_reading.ensures.is c.words_have_one_reading.ensures.only c.items_read_again.ensures c.items_read_together.ensures kind (c.own_words_are_read.ensures kind) p words asks_this full safe (output_path p)

pub returns-clause-preprocess : goal.returns-clause-preprocess
returns-clause-preprocess c = λ kind p words asks_this full safe.
    preprocess_again c.words_have_one_reading.ensures.is c.words_have_one_reading.ensures.only c.items_read_again.ensures c.items_read_together.ensures kind (c.own_words_are_read.ensures kind) p words asks_this full safe
