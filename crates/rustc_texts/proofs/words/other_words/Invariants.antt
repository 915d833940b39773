use Rattle.std.proofs.Common.{◌≡◌, filter, map, take}
use Rattle.rustc_options.specs.Asks.{said_in}
use Rattle.rustc_texts.specs.Words.{all_words, counts_beside, rest_of}
use Rattle.rustc_texts.proofs.words.other_words.Given as goal

-- those of the arguments so far
abbrev pub invariant-loop-argument : goal.invariant-loop-argument
invariant-loop-argument l =
    l.words ≡ all_words (filter (counts_beside l.has_target_file) (rest_of (map said_in (take l.argument-index l.arguments))))
