use Rattle.std.proofs.Common.{◌≡◌, ◌++◌}
use Rattle.cmdlines_base.specs.Pieces.{argument_words}
use Rattle.cmdlines_base.specs.Printers.{words_left}
use Rattle.rustc_options.specs.Data.{word_of}
use Rattle.rustc_texts.proofs.words.push_words.Given as goal

-- the words so far, and then those that the argument has left
abbrev pub invariant-loop-word : goal.invariant-loop-word
invariant-loop-word l = l.words ++ words_left word_of l.word-iterator ≡ l.fn.words ++ argument_words word_of l.argument
