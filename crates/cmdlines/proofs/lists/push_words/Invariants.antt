use Rattle.std.proofs.Common.{◌≡◌, ◌++◌}
use Rattle.cmdlines_base.specs.Pieces.{argument_words}
use Rattle.cmdlines_base.specs.Printers.{words_left}
use Rattle.cmdlines_tables.specs.Values.{word_in}
use Rattle.cmdlines.proofs.lists.push_words.Given as goal

-- the words so far, and then those that the option has left
abbrev pub invariant-loop-word : goal.invariant-loop-word
invariant-loop-word l = l.words ++ words_left word_in l.word-iterator ≡ l.fn.words ++ argument_words word_in l.option
