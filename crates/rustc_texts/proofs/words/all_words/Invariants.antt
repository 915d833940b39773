use Rattle.std.proofs.Common.{◌≡◌, map, take}
use Rattle.rustc_options.specs.Asks.{said_in}
use Rattle.rustc_texts.specs.Words.{all_words}
use Rattle.rustc_texts.proofs.words.all_words.Given as goal

-- those of the arguments so far
abbrev pub invariant-loop-argument : goal.invariant-loop-argument
invariant-loop-argument l = l.words ≡ all_words (map said_in (take l.argument-index l.arguments))
