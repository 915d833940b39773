use Rattle.std.proofs.Common.{◌≡◌, filter, map, take}
use Rattle.std.specs.Prelude.{not}
use Rattle.rustc_options.specs.Asks.{said_in}
use Rattle.rustc_texts.specs.Words.{all_words, is_on_outputs}
use Rattle.rustc_texts.proofs.words.dep_info_words.Given as goal

-- those of the arguments so far
abbrev pub invariant-loop-argument : goal.invariant-loop-argument
invariant-loop-argument l =
    l.words ≡ all_words (filter (λ said. not (is_on_outputs said)) (map said_in (take l.argument-index l.parsed.arguments)))
